-- Laws of tilings, over an arbitrary board.
pub mod Covers
pub mod Unique
pub mod Best
pub mod Heads
pub mod Same
pub mod Codes
pub mod Laws
