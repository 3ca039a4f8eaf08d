pub mod Cells
pub mod Trail
