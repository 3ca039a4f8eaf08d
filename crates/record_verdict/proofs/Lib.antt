pub mod Texts
pub mod Stages
pub mod Led
pub mod Verdicts
