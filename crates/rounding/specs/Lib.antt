pub mod Units
pub mod Diff
pub mod Rounded
