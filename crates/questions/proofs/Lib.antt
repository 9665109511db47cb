-- Laws that belong to no one function.
pub mod Handed
pub mod Passing
pub mod Over
pub mod Readers
