pub mod Laws
pub mod Folds
pub mod Vectors
