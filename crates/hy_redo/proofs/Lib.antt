pub mod CallLaws
pub mod SendingLaws
mod WorkedStops
