pub mod Spelled
pub mod Tables
