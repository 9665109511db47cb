-- Laws that belong to no one function.
pub mod Firsts
pub mod Handing
pub mod Replies
