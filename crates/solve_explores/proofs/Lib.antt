pub mod Searching
pub mod Finding
pub mod Tracing
