pub mod Text
pub mod Sheet
pub mod Theorems
