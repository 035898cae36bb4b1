pub mod Groups
pub mod Keys
pub mod Orders
pub mod Owned
pub mod Repeats
pub mod Steps
