pub mod Passing
pub mod Helpers
