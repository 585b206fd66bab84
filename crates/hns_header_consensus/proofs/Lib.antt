pub mod Headers
pub mod RoundTrip
