-- The sheet: its bounds, its calls, and the question on it.
pub mod Bounds
pub mod Calls
pub mod Question
