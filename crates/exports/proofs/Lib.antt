mod Bounds
pub mod Filled
