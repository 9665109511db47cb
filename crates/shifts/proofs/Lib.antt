-- Laws that belong to no one function.
pub mod Shifting
pub mod Inside
