-- The worked examples hold.
pub mod Lengths
pub mod Deciding
pub mod Showing
pub mod Theorem
pub mod Empty
