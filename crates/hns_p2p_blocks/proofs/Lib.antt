pub mod Ends
pub mod Blocks
pub mod Signed
pub mod Addresses
pub mod Packets
