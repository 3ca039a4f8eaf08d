pub mod Chunks
pub mod Decides
pub mod Stored
pub mod Numbers
pub mod Prefix
