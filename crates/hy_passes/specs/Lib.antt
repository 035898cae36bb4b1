pub mod Agreement
pub mod SerialList
pub mod Inside
pub mod Law
pub mod Worlds
pub mod Pairs
mod WorkedRows
