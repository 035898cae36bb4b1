-- what stands below, for the crates above
pub use Rattle.hy_partition.specs as of_partition
pub use Rattle.hy_partition.specs.of_tpcc as of_tpcc
pub mod Lists
pub mod Crossings
pub mod Named
pub mod WorkedNamed
pub mod Unsettled
pub mod Pairs
pub mod Making
pub mod inside
