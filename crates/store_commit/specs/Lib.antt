pub mod Committed
pub mod Settled
pub mod Leaves
