pub mod Factorize
pub mod Discs
