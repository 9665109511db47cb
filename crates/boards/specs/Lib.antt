-- Which spans are pieces, and the board of a string.
pub mod Pieces
pub mod Laws
