-- Laws that belong to no one function.
pub mod Counting
pub mod Walking
pub mod Exactness
pub mod Refusing
pub mod Replies
