pub mod Whole
pub mod Next
pub mod Piece
pub mod Done
pub mod Bounded
pub mod Regions
pub mod Pointing
