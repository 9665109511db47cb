-- Letters in their places after an edit.
pub mod Shifts
pub mod Work
