pub mod Depths
pub mod Theorems
