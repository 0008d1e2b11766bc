pub mod Turns
pub mod Passed
pub mod Laws
