pub mod Grown
pub mod Bounds
