-- Laws that belong to no one function.
pub mod Walking
pub mod Judging
pub mod Popping
pub mod Moving
