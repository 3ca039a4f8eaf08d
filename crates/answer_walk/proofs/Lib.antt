pub mod Prefix
pub mod Turns
pub mod Few
pub mod Numbering
pub mod Stacks
pub mod Heights
pub mod Lines
