pub mod Hidden
pub mod Theorems
