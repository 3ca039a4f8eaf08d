pub mod Tests
pub mod Here
pub mod Positions
pub mod Answers
pub mod Pieces
