pub mod Lends
pub mod Writing
