pub mod Called
pub mod Change
pub mod Entries
pub mod Faulty
pub mod FaultyLaws
pub mod Meddled
