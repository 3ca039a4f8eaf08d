pub mod Regions
pub mod Bounds
pub mod Pointed
