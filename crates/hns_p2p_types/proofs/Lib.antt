pub mod Types
pub mod Payloads
pub mod Signed
