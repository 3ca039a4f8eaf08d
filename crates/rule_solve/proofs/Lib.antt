pub mod Starts
pub mod Idling
pub mod Silence
pub mod Quieting
