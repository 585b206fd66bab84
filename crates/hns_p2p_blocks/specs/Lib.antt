pub mod Blocks
pub mod Helpers
