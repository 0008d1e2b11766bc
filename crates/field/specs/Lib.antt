pub mod Prefix
pub mod Longer
pub mod Value
pub mod Theorems
