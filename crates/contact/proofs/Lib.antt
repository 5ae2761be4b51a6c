pub mod Answer
pub mod Negative
pub mod Theorem
pub mod Systems
