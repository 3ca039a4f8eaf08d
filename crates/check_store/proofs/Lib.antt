pub mod Pieces
pub mod Forming
pub mod Telling
