-- The tiling question: its reply, the laws for a reader, and the working notion of its contracts.
pub mod Tiling
pub mod Laws
pub mod Work
