pub mod Touching
pub mod Replies
pub mod Walk
