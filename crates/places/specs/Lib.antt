-- The places of a sheet.
pub mod Places
