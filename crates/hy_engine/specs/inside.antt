pub mod Early
pub mod Rooms
