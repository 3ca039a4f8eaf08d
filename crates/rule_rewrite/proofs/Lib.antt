pub mod Chosen
pub mod Led
