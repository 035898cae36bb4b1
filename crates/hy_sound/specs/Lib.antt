pub mod Sound
pub mod Merges
pub mod inside
