pub mod Walks
pub mod Bytes
pub mod Names
pub mod Files
pub mod Turns
pub mod Steps
