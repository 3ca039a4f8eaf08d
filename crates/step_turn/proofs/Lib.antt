pub mod Shaped
pub mod Stores
pub mod Standing
pub mod Entering
pub mod Leaving
pub mod Passing
