pub mod Names
pub mod Grows
pub mod Outcome
