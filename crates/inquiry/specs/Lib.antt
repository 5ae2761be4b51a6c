pub mod Inquiry
pub mod Start
pub mod Claims
