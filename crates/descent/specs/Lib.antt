pub mod Descent
pub mod Frames
