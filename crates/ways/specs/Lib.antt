-- Which spans are pieces, and working notions of the ways.
pub mod Spans
pub mod Ways
