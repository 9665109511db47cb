-- What tilings are, and which one is given.
pub mod Tilings
pub mod Laws
pub mod Work
