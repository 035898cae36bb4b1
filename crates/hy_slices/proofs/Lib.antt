pub mod BegunLaws
pub mod SliceLaws
pub mod WholeLaws
pub mod BetweenSlices
pub mod GrowingLaws
pub mod GrowingSlices
