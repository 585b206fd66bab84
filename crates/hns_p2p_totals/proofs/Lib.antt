pub mod Sums
pub mod Exact
pub mod Rooms
pub mod Steps
pub mod Totals
pub mod Conditions
pub mod Trials
