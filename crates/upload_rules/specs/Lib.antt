pub mod Place
pub mod Refusal
pub mod Run
pub mod Upload
