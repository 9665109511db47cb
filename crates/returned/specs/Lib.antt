-- Files of part records that come back.
pub mod Returned
pub mod Laws
pub mod Work
