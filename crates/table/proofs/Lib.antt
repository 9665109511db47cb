-- Laws that belong to no one function.
pub mod Index
pub mod Testing
pub mod Rows
pub mod Dropping
pub mod Tabled
