-- What palindromes are, where they stop, and what the fill of the centres answers.
pub mod Palindromes
pub mod Centres
pub mod Stops
pub mod Work
