pub mod Texts
pub mod Widths
