-- What shuffled palindromes are, and what their fill answers.
pub mod Shuffled
pub mod Laws
pub mod Work
