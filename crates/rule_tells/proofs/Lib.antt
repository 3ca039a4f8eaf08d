pub mod Scanned
pub mod Adding
pub mod Stepping
