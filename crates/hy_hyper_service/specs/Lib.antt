pub mod Opening
pub mod Keeping
pub mod Rounds
pub mod Endings
pub mod WorkedRounds
