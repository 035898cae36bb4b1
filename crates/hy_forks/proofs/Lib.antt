-- what stands below, for the crates above
pub use Rattle.hy_crossing.proofs as of_crossing
pub use Rattle.hy_crossing.proofs.of_partition as of_partition
pub use Rattle.hy_crossing.proofs.of_tpcc as of_tpcc
pub mod RelationLaws
pub mod PlaceLaws
pub mod ForkLaws
pub mod PartsLaws
pub mod HistoryLaws
pub mod DatabaseLaws
pub mod TakenLaws
pub mod AllLaws
pub mod CloseLaws
pub mod AgainLaws
pub mod TellLaws
pub mod ResultLaws
pub mod LackLaws
pub mod ForkedLaws
pub mod DrainLaws
pub mod SendLaws
pub mod NumberLaws
pub mod FitsLaws
pub mod BatchLaws
pub mod LoggedLaws
pub mod ServingLaws
pub mod BookLaws
