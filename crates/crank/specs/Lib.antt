pub mod Crank
pub mod Claims
