pub mod Calls
pub mod Drive
pub mod Held
