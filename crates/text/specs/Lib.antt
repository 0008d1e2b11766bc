pub mod Listing
pub mod Theorems
