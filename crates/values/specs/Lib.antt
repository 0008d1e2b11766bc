pub mod Numbers
pub mod Prefixes
pub mod Words
pub mod Grammar
