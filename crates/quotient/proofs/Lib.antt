pub mod Terms
pub mod InPlace
pub mod Counts
pub mod Merging
pub mod Checked
