pub mod Effects
pub mod Standing
pub mod Conditions
