pub mod Labels
pub mod Telling
pub mod Views
pub mod Outcomes
pub mod Lines
