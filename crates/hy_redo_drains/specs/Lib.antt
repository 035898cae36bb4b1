-- what stands below, for the crates above
pub use Rattle.hy_forks.specs.of_crossing as of_crossing
pub use Rattle.hy_forks.specs as of_forks
pub use Rattle.hy_forks.specs.of_partition as of_partition
pub mod Following
