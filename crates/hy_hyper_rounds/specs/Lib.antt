pub mod Rounds
pub mod Restarts
pub mod WorkedRounds
pub mod WorkedRestarts
