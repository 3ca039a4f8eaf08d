pub mod Found
pub mod Backwards
pub mod Looking
