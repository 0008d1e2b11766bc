pub mod Words
pub mod Cuts
pub mod Spans
pub mod Going
pub mod Counting
