-- what stands below, for the crates above
pub use Rattle.hy_tpcc.specs as of_tpcc
-- how many frames a load takes, which whoever makes all warehouses names
pub use Rattle.hy_fill.specs.Frames
pub mod Worlds
pub mod Limits
pub mod Jobs
pub mod Snapshots
pub mod Partition
pub mod Accounts
pub mod Headline
pub mod Steps
pub mod Parts
pub mod Unsettled
pub mod Schedules
pub mod WorkedRows
pub mod WorkedRefusals
pub mod WorkedParts
pub mod WorkedSchedules
pub mod inside
