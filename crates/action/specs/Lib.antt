pub mod Action
pub mod Operator
pub mod Laws
pub mod Search
pub mod Theorems
