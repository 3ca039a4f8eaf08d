pub mod Low
pub mod Examples
