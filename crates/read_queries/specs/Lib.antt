pub mod Checks
pub mod Queries
