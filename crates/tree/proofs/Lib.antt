pub mod Own
pub mod Steps
pub mod Eval
