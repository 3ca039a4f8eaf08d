pub mod Owning
pub mod Viewing
pub mod Verdict
pub mod Quietness
