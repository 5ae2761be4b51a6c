pub mod Hull
pub mod Gap
