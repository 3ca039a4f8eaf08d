pub mod Stores
pub mod Spelling
