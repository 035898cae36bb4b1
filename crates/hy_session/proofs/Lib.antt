-- what stands below, for the crates above
pub use Rattle.hy_forks.proofs.of_crossing as of_crossing
pub use Rattle.hy_forks.proofs as of_forks
pub use Rattle.hy_forks.proofs.of_partition as of_partition
pub mod JoinedLaws
pub mod ScanLaws
pub mod ShownLaws
pub mod AgainLaws
pub mod SendLaws
