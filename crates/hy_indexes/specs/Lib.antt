-- what stands below, for the crates above
pub use Rattle.hy_store.specs.of_index as of_index
pub use Rattle.hy_store.specs as of_store
pub mod Finds
pub mod Indexes
pub mod WorkedIndexes
