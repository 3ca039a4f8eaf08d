pub mod Lists
pub mod Behind
pub mod States
pub mod Words
pub mod Parts
pub mod Limits
pub mod Settling
