-- What the proofs of several functions use.
pub mod Answers
pub mod Listing
pub mod Feeding
pub mod Once
