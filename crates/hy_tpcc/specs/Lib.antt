-- what whoever has a warehouse's transactions names of the crates below
pub use Rattle.hy_writers.specs.of_store.Stored
pub use Rattle.hy_writers.specs.of_store.Writes
pub use Rattle.hy_writers.specs.of_indexes.Indexes
pub use Rattle.hy_writers.specs.Limits
pub use Rattle.hy_writers.specs.Waiting
pub mod Lines
pub mod Levels
pub mod WorkedLevels
pub mod Executor
pub mod Parts
pub mod WorkedParts
pub mod Deliveries
pub mod Payments
pub mod Shortages
