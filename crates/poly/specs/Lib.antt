pub mod Coefficients
pub mod Solve
pub mod Found
pub mod RealRoots
pub mod Conditions
pub mod Short
pub mod Brief
