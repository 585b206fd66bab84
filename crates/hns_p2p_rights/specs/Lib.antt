pub mod Terms
pub mod Rights
pub mod Claims
pub mod Helpers
