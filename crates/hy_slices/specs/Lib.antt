pub mod Slices
pub mod Between
pub mod Begun
pub mod WorkedSlices
