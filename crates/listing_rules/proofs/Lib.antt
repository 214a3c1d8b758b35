pub mod Fronts
mod Joined
pub mod Owns
mod Remote
pub mod Shows
