pub mod Under
pub mod Nodes
pub mod Names
pub mod Kept
pub mod Children
