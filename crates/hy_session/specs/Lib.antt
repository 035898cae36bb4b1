-- what stands below, for the crates above
pub use Rattle.hy_forks.specs.of_crossing as of_crossing
pub use Rattle.hy_forks.specs as of_forks
pub use Rattle.hy_forks.specs.of_partition as of_partition
-- what whoever asks a session names of the crate below
pub use Rattle.hy_answers.specs.Texts
pub mod Snapshots
pub mod Reports
pub mod Databases
pub mod inside
