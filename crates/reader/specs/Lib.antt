-- Part records read back.
pub mod Reader
pub mod Laws
