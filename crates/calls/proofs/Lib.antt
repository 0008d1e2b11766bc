mod Parts
pub mod Found
pub mod Takes
pub mod Sessions
