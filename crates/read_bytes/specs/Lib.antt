pub mod Meant
pub mod Classes
