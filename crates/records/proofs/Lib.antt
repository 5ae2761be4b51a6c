-- What the proofs of several functions, and callers' proofs, use.
pub mod Marks
pub mod Places
