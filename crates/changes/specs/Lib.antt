-- Changes: what they do, what takes them back, and which their calls would accept.
pub mod Changes
pub mod Work
