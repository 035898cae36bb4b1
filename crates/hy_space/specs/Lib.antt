pub mod Space
pub mod inside
