pub mod Rows
pub mod Tree
pub mod Nodes
pub mod Number
pub mod Hidden
pub mod Shuffle
pub mod Theorems
