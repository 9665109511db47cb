-- The kept changes of a sheet.
pub mod Lists
pub mod Work
