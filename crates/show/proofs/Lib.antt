pub mod Listed
pub mod Numerals
