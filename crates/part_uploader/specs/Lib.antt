pub mod Asks
pub mod Buffered
pub mod Sound
pub mod Unasked
