-- What the functions' proofs share.
pub mod Loops
pub mod Vectors
