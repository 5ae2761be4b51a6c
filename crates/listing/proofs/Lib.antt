-- What the proofs of several functions use, and what callers use of the listing.
mod Texts
mod Answers
pub mod Asked
pub mod Reading
pub mod Bound
pub mod Totals
mod Sample
