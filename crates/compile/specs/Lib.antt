pub mod Lays
pub mod Places
pub mod Tables
pub mod Build
pub mod Compile
pub mod Theorems
