pub mod Walk
pub mod Numbered
pub mod Stack
pub mod Line
