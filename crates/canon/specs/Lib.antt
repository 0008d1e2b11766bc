pub mod Text
pub mod Pieces
pub mod Keeps
