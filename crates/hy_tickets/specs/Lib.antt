pub mod Desks
pub mod Law
mod WorkedRows
