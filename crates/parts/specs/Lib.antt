pub mod Polynomial
pub mod Value
pub mod Products
pub mod Kept
pub mod Part
