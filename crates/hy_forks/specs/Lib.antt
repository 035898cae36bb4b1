-- what stands below, for the crates above
pub use Rattle.hy_crossing.specs as of_crossing
pub use Rattle.hy_crossing.specs.of_partition as of_partition
pub use Rattle.hy_crossing.specs.of_tpcc as of_tpcc
-- what whoever has a snapshot of all warehouses names of the crates below
pub use Rattle.hy_worlds.specs.Origins
pub use Rattle.hy_crossing.specs.of_partition.Snapshots
pub use Rattle.hy_crossing.specs.Crossings
pub use Rattle.hy_crossing.specs.Lists
pub mod Forks
pub mod Drains
pub mod Histories
pub mod Logged
pub mod Accounts
pub mod Partitions
pub mod inside
