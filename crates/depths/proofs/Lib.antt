pub mod Stacks
pub mod Grown
pub mod Written
