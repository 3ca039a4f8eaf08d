pub mod Rewriting
