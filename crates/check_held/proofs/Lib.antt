pub mod Good
pub mod Cut
pub mod Held
pub mod Back
pub mod Below
