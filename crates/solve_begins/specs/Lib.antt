pub mod Begins
pub mod Number
