pub mod Kept
pub mod Lends
