pub mod Types
pub mod Protocol
pub mod Packets
