pub mod Origins
pub mod Marked
pub mod Theorems
