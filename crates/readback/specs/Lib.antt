-- The worked examples that are proved.
pub mod Samples
pub mod Shown
