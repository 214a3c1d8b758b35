pub mod Gone
pub mod Last
pub mod Looked
pub mod Meant
pub mod Opened
pub mod Seen
pub mod Unkept
