-- Laws that belong to no one function.
pub mod Words
pub mod Parities
pub mod Exact
pub mod Laws
