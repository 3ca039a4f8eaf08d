pub mod Machine
pub mod Passed
pub mod Moving
pub mod Bounds
pub mod Low
