-- What the call program prints.
pub mod Printing
pub mod Pages
