pub mod Exponent
pub mod Shape
