pub mod Searches
pub mod Starts
pub mod Opens
pub mod Kept
pub mod Prepared
