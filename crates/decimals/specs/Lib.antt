pub mod Read
pub mod Text
