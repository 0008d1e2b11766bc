pub mod Turns
pub mod Carried
pub mod First
pub mod Matches
pub mod Inner
pub mod Marks
