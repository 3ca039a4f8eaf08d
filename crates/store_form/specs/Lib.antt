pub mod Sizes
pub mod State
pub mod Form
pub mod Holding
pub mod Named
