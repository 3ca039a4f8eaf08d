pub mod Outcomes
pub mod Handed
pub mod Calls
pub mod Around
pub mod OnBytes
