pub mod Words
pub mod Answers
pub mod Totals
pub mod Lines
pub mod Printable
pub mod File
