pub mod Bits
pub mod Bytes
pub mod Finite
pub mod Made
pub mod Own
pub mod RoundDown
pub mod Whole
pub mod Zero
