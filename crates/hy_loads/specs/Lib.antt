pub mod Checks
pub mod Keys
pub mod There
pub mod WorkedRules
