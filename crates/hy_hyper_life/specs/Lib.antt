pub mod Reading
pub mod Faults
pub mod Lives
pub mod Served
pub mod WorkedFiles
