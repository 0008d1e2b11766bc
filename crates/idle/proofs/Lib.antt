pub mod Replaced
pub mod Alike
pub mod Trees
pub mod Silent
pub mod FirstMet
pub mod Asked
