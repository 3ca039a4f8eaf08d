pub mod Names
pub mod Spelt
pub mod Bytes
pub mod Reading
pub mod Lengths
pub mod Examples
pub mod Keeping
