pub mod Asked
pub mod Dropped
pub mod Owed
pub mod Turn
