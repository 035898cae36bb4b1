pub mod Books
pub mod Inside
pub mod Law
mod WorkedRows
