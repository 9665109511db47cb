-- The longest palindrome of one string and of two.
pub mod Longest
pub mod Work
