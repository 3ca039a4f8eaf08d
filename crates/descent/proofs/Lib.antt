pub mod Calls
pub mod Enough
pub mod Steps
pub mod Whole
pub mod Frames
