pub mod AllJobs
pub mod Entries
pub mod Known
pub mod Numbers
pub mod Places
pub mod ReadySets
pub mod Rising
