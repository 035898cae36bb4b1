pub mod Directory
pub mod Faults
pub mod Files
pub mod Loads
pub mod LogFiles
pub mod MemoryFiles
pub mod WorkedRows
