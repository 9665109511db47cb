-- What a tiling question wrote comes back whole.
pub mod RoundTrip
