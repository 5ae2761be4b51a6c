pub mod Double
pub mod Quad
