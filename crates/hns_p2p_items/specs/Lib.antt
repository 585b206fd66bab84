pub mod Items
pub mod Listings
pub mod Helpers
