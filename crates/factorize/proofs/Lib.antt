pub mod Degree
pub mod Most
pub mod Sizes
pub mod Ways
pub mod Room
pub mod Rescaled
pub mod Vectors
pub mod Discs
