-- Laws that belong to no one function.
pub mod Order
pub mod Below
pub mod Supplied
pub mod Refusals
pub mod Named
pub mod Ranges
pub mod Passed
pub mod Told
pub mod Laws
