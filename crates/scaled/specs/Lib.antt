pub mod Exponent
pub mod Scaled
