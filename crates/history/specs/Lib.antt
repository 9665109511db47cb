-- Demand 3: the history, runs of calls, what holds of them, and of the limits calls.
pub mod History
pub mod Runs
pub mod Demand3
pub mod Openings
pub mod LimitsCalls
pub mod Example
