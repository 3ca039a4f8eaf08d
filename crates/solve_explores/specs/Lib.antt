pub mod Search
pub mod Since
