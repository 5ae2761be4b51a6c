pub mod Answers
pub mod Lists
pub mod Inquiries
pub mod Cranks
pub mod Quadratics
pub mod Contacts
pub mod Formulas
