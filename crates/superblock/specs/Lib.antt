pub mod Decided
pub mod Hiding
pub mod Prefix
pub mod Walked
