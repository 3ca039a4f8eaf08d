pub mod Back
pub mod Once
pub mod Only
pub mod Known
pub mod Places
pub mod Sizes
pub mod Formed
pub mod Examples
