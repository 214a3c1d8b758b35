pub mod Asked
pub mod Dropped
pub mod Paid
pub mod Steps
pub mod Turned
