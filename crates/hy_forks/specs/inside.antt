pub mod Places
pub mod Copies
