pub mod Kept
pub mod Followed
