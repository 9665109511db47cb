-- A text as it is lent, and what helpers ask of it.
pub mod Lent
pub mod Work
