pub mod Nodes
pub mod Pages
pub mod Places
pub mod Writes
pub mod Ways
pub mod Words
