pub mod Numbers
pub mod Helpers
