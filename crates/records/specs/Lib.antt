pub mod Marks
pub mod Records
