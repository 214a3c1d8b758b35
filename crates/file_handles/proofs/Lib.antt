mod Refusals
pub mod Tables
