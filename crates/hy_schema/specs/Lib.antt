pub mod Refusals
pub mod Keys
pub mod Related
pub mod Conditions
pub mod Loads
pub mod WorkedConditions
