pub mod Kinds
pub mod Lines
pub mod Named
pub mod NamedOnce
