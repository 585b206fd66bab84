pub mod Determined
pub mod Agreement
pub mod Same
pub mod Sizes
pub mod Written
pub mod LastLines
pub mod Example
