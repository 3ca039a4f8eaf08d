pub mod Codes
pub mod Phrases
