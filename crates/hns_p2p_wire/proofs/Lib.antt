pub mod Given
pub mod Demand3
pub mod NotKept
pub mod Trials
pub mod Back
