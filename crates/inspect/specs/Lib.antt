-- What the functions of the inspect program promise one another.
pub mod Asking
pub mod Lending
pub mod Showing
pub mod Stepping
