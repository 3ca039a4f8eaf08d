pub mod Any
pub mod OnBytes
pub mod Kept
pub mod Demand3
pub mod Used
pub mod Examples
