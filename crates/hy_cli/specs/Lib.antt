pub mod CommandLine
pub mod WorkedRows
pub mod inside
