pub mod Interning
