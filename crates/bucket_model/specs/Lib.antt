pub mod Along
pub mod Answers
pub mod Bucket
pub mod History
pub mod Listing
