pub mod Loops
pub mod Segments
pub mod Balance
