pub mod Calls
pub mod Disk
pub mod WorkedRows
pub mod Writers
pub mod inside
