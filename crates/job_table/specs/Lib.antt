pub mod Journal
pub mod Kept
pub mod LiveJobs
pub mod ReadyNumbers
