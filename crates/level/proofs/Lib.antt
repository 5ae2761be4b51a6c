pub mod Gap
pub mod Logs
pub mod None
pub mod Turns
pub mod Spans
