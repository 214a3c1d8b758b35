pub mod Headline
pub mod Messages
pub mod Reading
pub mod Statuses
