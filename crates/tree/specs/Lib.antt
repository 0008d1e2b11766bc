pub mod Action
pub mod Steps
pub mod Theorems
