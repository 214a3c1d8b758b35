pub mod Numbered
pub mod Along
pub mod Steps
pub mod Parts
pub mod Laws
