-- One line in, one reply out.
pub mod Desk
pub mod Work
