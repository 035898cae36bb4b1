pub mod Blocks
pub mod Columns
pub mod Scans
pub mod inside
