pub mod Names
pub mod Views
pub mod Changes
pub mod Steps
