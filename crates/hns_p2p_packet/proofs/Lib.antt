pub mod Fields
pub mod Texts
