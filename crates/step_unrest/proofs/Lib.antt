pub mod Placing
pub mod Rows
pub mod Rounds
pub mod Resting
pub mod Taken
pub mod Moving
pub mod Tabled
pub mod Boxed
