pub mod Passing
pub mod Differences
