pub mod Out
pub mod Slots
pub mod TheirContracts
