pub mod Following
pub mod Stepping
