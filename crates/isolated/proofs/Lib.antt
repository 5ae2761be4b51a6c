pub mod Laws
pub mod Vectors
