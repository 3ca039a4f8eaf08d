pub mod Sofar
pub mod Heading
