pub mod Honest
pub mod Listed
pub mod Lost
pub mod Making
pub mod Scheduled
pub mod Tells
