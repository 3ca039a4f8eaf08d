pub mod Stored
pub mod Settling
pub mod Held
