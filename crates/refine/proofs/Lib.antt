-- What the functions' proofs share, the turns of `refine`, and the most systems that are solved.
pub mod Laws
pub mod Turns
pub mod Sizes
pub mod Most
