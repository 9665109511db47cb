-- Laws that belong to no one function.
pub mod Within
pub mod Replying
pub mod Asked
