-- The laws, and how long each text is.
pub mod Rooms
pub mod Lengths
pub mod Fits
