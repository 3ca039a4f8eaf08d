pub mod Checks
pub mod Programs
