pub mod Calls
pub mod Trials
