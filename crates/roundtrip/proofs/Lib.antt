-- Why it does.
pub mod RoundTrip
