pub mod Fields
pub mod As
pub mod Indexes
