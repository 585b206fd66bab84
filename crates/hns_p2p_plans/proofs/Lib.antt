pub mod Tests
pub mod Compacts
pub mod Indexes
pub mod Texts
