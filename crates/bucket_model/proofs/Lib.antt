pub mod Along
pub mod CommonPrefix
pub mod Listing
pub mod Order
pub mod Rising
