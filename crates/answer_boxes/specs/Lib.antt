pub mod Asked
pub mod Boxes
