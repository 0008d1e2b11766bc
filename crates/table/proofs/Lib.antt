pub mod Turns
pub mod Tested
pub mod Tables
pub mod Lying
pub mod First
pub mod Scans
