pub mod Walking
pub mod Whole
