-- Laws of the board of a string.
pub mod Centred
pub mod Transfer
pub mod Laws
