pub mod Quiets
