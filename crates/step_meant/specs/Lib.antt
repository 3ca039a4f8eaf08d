pub mod Meant
pub mod Asked
pub mod Deciding
