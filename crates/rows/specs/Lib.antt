-- What is done to rows of numbers.
pub mod Rows
