pub mod Weights
pub mod Means
