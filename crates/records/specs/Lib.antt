-- Part records.
pub mod Records
pub mod Work
