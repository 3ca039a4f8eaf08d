pub mod Telling
pub mod Called
