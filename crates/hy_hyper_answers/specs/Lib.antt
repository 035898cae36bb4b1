pub mod Served
pub mod WorkedServed
