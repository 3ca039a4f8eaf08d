pub mod Shapes
pub mod Boxes
pub mod Stood
pub mod Leaving
