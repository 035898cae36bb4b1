pub mod Frames
pub mod WorkedRows
pub mod inside
