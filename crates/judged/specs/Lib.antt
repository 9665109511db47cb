-- One returned record by itself.
pub mod Judged
pub mod Work
