pub mod Database
pub mod WorkedDatabases
