pub mod Dropped
pub mod Rises
pub mod Gaps
