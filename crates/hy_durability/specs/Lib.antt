pub mod Durability
