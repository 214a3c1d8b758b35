mod Begins
pub mod Order
pub mod Answered
