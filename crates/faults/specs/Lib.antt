pub mod Numbers
pub mod Shown
pub mod Meant
pub mod Phrases
pub mod Cures
pub mod Message
pub mod Theorems
