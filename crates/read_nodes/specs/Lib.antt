pub mod Spell
pub mod Trie
pub mod Starting
