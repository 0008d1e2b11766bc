pub mod Words
pub mod Records
pub mod Bytes
pub mod Left
pub mod Theorems
