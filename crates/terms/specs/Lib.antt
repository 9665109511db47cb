-- What a question is put in: the definitions that every crate above uses.
pub mod Sizes
pub mod Refusals
pub mod Maps
pub mod Alphabets
pub mod Limits
pub mod Texts
pub mod Passed
pub mod Tells
pub mod Laws
