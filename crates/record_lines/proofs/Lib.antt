pub mod Parts
pub mod Asked
pub mod Pieces
