pub mod Owning
pub mod Resting
