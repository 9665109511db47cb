-- Laws that belong to no one function.
pub mod Ends
pub mod Keeping
pub mod Pieces
pub mod Onward
