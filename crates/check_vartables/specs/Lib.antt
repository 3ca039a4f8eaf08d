pub mod Tables
pub mod Stacks
