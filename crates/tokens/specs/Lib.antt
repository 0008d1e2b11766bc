pub mod Tokens
pub mod Left
pub mod Cut
pub mod Place
pub mod Theorems
