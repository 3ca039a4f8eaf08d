pub mod Names
pub mod Vars
pub mod OneVar
