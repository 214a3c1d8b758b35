pub mod Seen
pub mod View
pub mod Rule
pub mod Steps
pub mod Seats
pub mod Named
