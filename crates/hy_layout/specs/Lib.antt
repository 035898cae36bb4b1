pub mod Layout
pub mod Finds
pub mod WorkedPlaces
pub mod inside
