pub mod Standing
pub mod Numerals
pub mod Numbers
pub mod Reading
