pub mod Demands
pub mod Table
pub mod Loops
pub mod Formed
pub mod Example
pub mod Texts
pub mod ByHand
pub mod Calls
