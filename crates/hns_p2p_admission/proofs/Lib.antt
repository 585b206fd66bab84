pub mod Admitted
pub mod Tests
