pub mod Asking
pub mod Within
