pub mod Inputs
pub mod Received
pub mod WorkedInputs
