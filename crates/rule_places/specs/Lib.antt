pub mod Finding
pub mod Pieces
pub mod Fingers
