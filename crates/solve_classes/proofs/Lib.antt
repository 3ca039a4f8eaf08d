pub mod Tables
pub mod Linking
