pub mod Rules
pub mod Nodes
