pub mod Origins
pub mod Traces
pub mod Decimals
pub mod Packets
pub mod Witnesses
pub mod Idle
pub mod OneValue
