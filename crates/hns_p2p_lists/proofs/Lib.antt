pub mod Lists
pub mod Listed
pub mod Requests
pub mod Packets
