pub mod Laws
pub mod Feeding
pub mod Within
