pub mod Frame
pub mod Walk
pub mod Pushed
pub mod Delivered
pub mod Push
pub mod Answers
pub mod Conditions
pub mod Helpers
