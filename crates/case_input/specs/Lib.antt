pub mod Zeros
pub mod Outputs
pub mod Questions
pub mod Cases
