-- Working notions of the table.
pub mod Work
