pub mod Unfolded
pub mod Steps
pub mod Proved
