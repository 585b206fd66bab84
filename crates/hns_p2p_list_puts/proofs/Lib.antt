pub mod Rests
pub mod Differences
pub mod Items
