pub mod Quartic
