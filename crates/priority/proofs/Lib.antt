pub mod Back
pub mod Stores
pub mod Seeking
pub mod Lying
pub mod Levelling
pub mod Linking
pub mod Whole
pub mod After
