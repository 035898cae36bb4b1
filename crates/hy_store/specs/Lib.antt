-- what stands below, for the crates above
pub use Rattle.hy_index.specs as of_index
pub use Rattle.hy_relation.specs as of_relation
-- what whoever has a store names of its indexes
pub use Rattle.hy_index.specs.declared.key.Entry
pub use Rattle.hy_index.specs.Index
pub mod Keys
pub mod Stored
pub mod Writes
pub mod Changes
pub mod Pages
pub mod inside
pub mod WorkedRows
