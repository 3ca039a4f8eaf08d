pub mod Decided
pub mod Examples
