pub mod Meanings
pub mod Asking
pub mod Laws
