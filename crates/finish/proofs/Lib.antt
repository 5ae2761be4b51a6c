-- What the functions' proofs share, and what is shown of the finished roots.
pub mod Laws
pub mod Runs
pub mod Places
pub mod Sorted
pub mod Counts
pub mod Simple
pub mod Each
