-- Laws that belong to no one function.
pub mod Refusing
pub mod Lengths
pub mod Local
pub mod Laws
