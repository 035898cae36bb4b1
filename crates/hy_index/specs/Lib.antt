-- what stands below, for the crates above
pub use Rattle.hy_joins.specs.of_nodes as of_nodes
pub mod Index
pub mod KeyBytes
pub mod Writes
pub mod Searches
pub mod Parts
pub mod WorkedRows
pub mod TreeRows
