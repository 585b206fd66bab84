pub mod Adds
pub mod Behind
pub mod Once
pub mod Counts
pub mod Tested
pub mod Owed
