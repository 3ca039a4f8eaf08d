pub mod Between
pub mod Walk
pub mod Gathering
pub mod Solved
pub mod Walking
pub mod Counting
pub mod Finding
pub mod Members
