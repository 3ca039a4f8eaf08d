pub mod Standing
pub mod Walkable
pub mod Resting
pub mod Guarding
