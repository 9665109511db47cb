-- The text of every reply.
pub mod Replies
pub mod Work
