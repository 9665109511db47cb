-- Laws that belong to no one function.
pub mod Tests
pub mod Leading
pub mod Walked
