pub mod Back
pub mod Once
pub mod Parts
pub mod Only
pub mod Known
pub mod Examples
