pub mod Counting
pub mod Counts
pub mod Pieces
