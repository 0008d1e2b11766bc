pub mod Row
pub mod Left
pub mod Spelled
