pub mod Roots
pub mod Listed
