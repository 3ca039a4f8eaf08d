pub mod Terms
pub mod Sizing
