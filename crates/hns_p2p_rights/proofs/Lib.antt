pub mod Lent
pub mod Masks
pub mod Conditions
pub mod Answers
