pub mod Table
pub mod Scan
pub mod Checked
pub mod Theorems
