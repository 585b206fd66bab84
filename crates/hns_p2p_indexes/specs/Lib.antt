pub mod Indexes
pub mod Helpers
