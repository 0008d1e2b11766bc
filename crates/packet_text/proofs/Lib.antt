pub mod Ranges
pub mod Printed
