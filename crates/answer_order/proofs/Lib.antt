pub mod Order
pub mod Memo
