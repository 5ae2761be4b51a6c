pub mod Literals
pub mod Rounded
pub mod Methods
pub mod Bytes
pub mod Floor
pub mod Units
pub mod Dyadic
