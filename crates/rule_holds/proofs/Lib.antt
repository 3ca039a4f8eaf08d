pub mod Order
pub mod Holders
pub mod Inside
