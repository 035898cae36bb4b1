pub mod HeldPlaces
pub mod Held
pub mod Guards
