-- The question for one centre.
pub mod Centre
pub mod Laws
