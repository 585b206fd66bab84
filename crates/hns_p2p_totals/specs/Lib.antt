pub mod Conditions
pub mod Totals
pub mod Trials
