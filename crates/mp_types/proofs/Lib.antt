pub mod Lists
pub mod Paths
pub mod Patterns
pub mod Prefixes
pub mod Texts
