pub mod Pieces
pub mod Numbers
pub mod Lines
pub mod Escapes
pub mod Asking
