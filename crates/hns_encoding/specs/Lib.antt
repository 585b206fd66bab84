pub mod Bytes
pub mod Compact
pub mod Format
pub mod Marks
pub mod Laws
pub mod Put
pub mod Answers
pub mod Helpers
