pub mod Loops
pub mod Product
pub mod Horner
pub mod Taylor
