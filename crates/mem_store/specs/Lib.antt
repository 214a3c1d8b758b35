pub mod Kept
pub mod Laws
pub mod Listed
pub mod Served
pub mod Uploads
