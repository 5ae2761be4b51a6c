pub mod Grammar
pub mod Parts
pub mod Meaning
pub mod Reading
pub mod Expansion
pub mod Formula
pub mod Readers
