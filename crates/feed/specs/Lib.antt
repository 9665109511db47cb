-- The lines of an input that arrives in pieces.
pub mod Lines
pub mod Feeding
pub mod Laws
