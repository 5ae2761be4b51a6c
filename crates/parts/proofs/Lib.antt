pub mod Coefficients
pub mod Limits
pub mod Trimmed
pub mod Values
pub mod Entries
pub mod Degrees
pub mod Products
pub mod Joins
