pub mod Lists
pub mod Steps
pub mod Pairs
pub mod Bound
pub mod Logs
