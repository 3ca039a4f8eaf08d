pub mod Built
pub mod Cuts
