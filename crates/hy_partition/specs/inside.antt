pub mod Room
pub mod Soundness
pub mod Views
