pub mod Due
pub mod Parts
pub mod Life
pub mod Place
pub mod Taken
pub mod Once
