pub mod Words
pub mod Names
pub mod Theorems
pub mod Made
