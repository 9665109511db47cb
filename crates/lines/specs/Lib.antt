-- The lines of a call: what each asks, and how one is read.
pub mod Lines
pub mod Work
