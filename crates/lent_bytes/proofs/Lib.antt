-- What the proofs of several functions, and callers' proofs, use.
pub mod Doubles
pub mod Five
pub mod Whole
pub mod Numbers
pub mod Rows
pub mod Counts
