pub mod Scopes
pub mod TheirContracts
pub mod Spelled
