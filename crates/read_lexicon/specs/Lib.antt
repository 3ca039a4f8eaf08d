pub mod Lexicon
