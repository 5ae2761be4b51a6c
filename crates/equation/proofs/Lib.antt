-- Facts of the definitions.
pub mod Solving
