pub mod Opens
pub mod Parameters
pub mod Reading
pub mod Looping
