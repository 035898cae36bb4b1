pub mod Databases
pub mod Steps
pub mod Answers
pub mod Scripts
pub mod Printed
pub mod Ends
pub mod WorkedScripts
pub mod inside
