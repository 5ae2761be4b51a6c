pub mod Refine
pub mod Systems
pub mod Weighed
pub mod Newton
