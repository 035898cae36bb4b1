pub mod Names
pub mod Readers
pub mod Signs
pub mod Writers
