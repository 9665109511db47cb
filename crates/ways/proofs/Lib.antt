-- Laws that belong to no one function.
pub mod Stores
pub mod Entering
pub mod Laying
pub mod Firsts
