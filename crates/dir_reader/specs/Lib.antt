pub mod Gathered
pub mod Order
