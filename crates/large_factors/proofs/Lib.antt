pub mod Added
pub mod Taken
pub mod Sizes
pub mod Room
