pub mod Facts
pub mod Prefixes
