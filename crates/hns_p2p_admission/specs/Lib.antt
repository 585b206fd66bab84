pub mod Admission
pub mod Reading
pub mod Claims
