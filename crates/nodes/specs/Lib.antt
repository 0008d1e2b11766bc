pub mod Nodes
pub mod Walk
