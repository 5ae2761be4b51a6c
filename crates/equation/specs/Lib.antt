pub mod Quadratic
