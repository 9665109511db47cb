-- Bytes in hexadecimal.
pub mod Hex
