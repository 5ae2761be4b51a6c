-- What the functions come to, over plain variables.
pub mod Samples
