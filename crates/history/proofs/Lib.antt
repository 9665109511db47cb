-- Demand 3 proved, and its example run.
pub mod Lists
pub mod Padding
pub mod Spelling
pub mod Writing
pub mod Edits
pub mod Bounded
pub mod Invariant
pub mod Steps
pub mod Openings
pub mod Theorems
pub mod Example
pub mod Asked
pub mod LimitsCalls
