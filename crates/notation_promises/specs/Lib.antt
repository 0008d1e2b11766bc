pub mod Constants
pub mod OneValue
pub mod Texts
pub mod Cases
