pub mod Finite
pub mod Front
pub mod Feeding
pub mod Answer
pub mod Refused
pub mod Theorem
