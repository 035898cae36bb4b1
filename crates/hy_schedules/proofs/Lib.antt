pub mod ClientLaws
pub mod PlaceLaws
pub mod StepLaws
pub mod OrderLaws
pub mod CallLaws
pub mod CrossLaws
pub mod DrainLaws
pub mod TellingLaws
