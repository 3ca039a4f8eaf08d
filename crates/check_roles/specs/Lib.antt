pub mod Held
pub mod Boxes
pub mod Marks
pub mod Steps
pub mod Opening
