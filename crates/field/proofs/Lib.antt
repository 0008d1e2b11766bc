pub mod Prefixes
pub mod Values
