pub mod Finish
pub mod Places
pub mod Run
