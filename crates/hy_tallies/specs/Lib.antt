pub mod Numbers
pub mod Lines
pub mod Tallies
pub mod inside
