pub mod Disturbing
