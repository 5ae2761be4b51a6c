-- In the order of the argument; the claims of specs/ are `accurate`, `no_worse` and `polishing`.
pub mod Sizes
pub mod Terms
pub mod Units
pub mod Parts
pub mod Product
pub mod Sum
pub mod Horner
pub mod Evaluated
pub mod Accurate
pub mod NoWorse
pub mod Polishing
