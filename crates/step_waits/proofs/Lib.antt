pub mod Asking
pub mod Waiting
