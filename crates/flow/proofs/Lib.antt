pub mod Any
pub mod ByFlags
pub mod Flags
pub mod Inside
pub mod Laws
pub mod Parts
pub mod Tests
pub mod Words
