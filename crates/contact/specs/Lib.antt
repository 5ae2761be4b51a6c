pub mod Contact
pub mod Claims
