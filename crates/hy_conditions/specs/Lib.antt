pub mod Delivered
pub mod Groups
pub mod Keys
pub mod Lines
pub mod Numbers
pub mod Runs
