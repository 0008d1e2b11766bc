pub mod Steps
pub mod Laid
