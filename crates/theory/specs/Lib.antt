pub mod Meaning
pub mod Scope
pub mod Entails
pub mod Transition
pub mod Formed
pub mod Named
pub mod NamedMeaning
