pub mod Conditions
pub mod Stream
pub mod Runs
pub mod Trials
