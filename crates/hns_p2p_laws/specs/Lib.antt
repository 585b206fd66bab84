pub mod Places
pub mod Trials
pub mod Worked
pub mod Refused
