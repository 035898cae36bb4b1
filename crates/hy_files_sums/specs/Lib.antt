pub mod Sums
pub mod Beside
pub mod WorkedSums
