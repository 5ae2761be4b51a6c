pub mod Bytes
pub mod Numbers
pub mod Lists
