pub mod Find
pub mod Helpers
