pub mod Parts
pub mod Handed
pub mod Filled
