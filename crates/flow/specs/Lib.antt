pub mod Packet
pub mod Match
pub mod Spelled
pub mod Theorems
