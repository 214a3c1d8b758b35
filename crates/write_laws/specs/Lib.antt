pub mod Accounted
