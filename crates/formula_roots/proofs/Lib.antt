pub mod Solved
pub mod Doubles
pub mod Theorem
