pub mod Capture
pub mod Left
pub mod Theorems
