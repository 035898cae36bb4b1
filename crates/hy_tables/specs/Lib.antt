pub mod Files
pub mod Generated
pub mod WorkedRows
