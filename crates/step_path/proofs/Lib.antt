pub mod Passing
pub mod Paths
