pub mod Crank
