-- Working notions of the reading-out.
pub mod Work
