-- What the call program lends is enough.
pub mod Rooms
