-- what stands below, for the crates above
pub use Rattle.hy_tpcc.proofs as of_tpcc
pub mod SnapshotLaws
pub mod ReplayLaws
pub mod SpellLaws
pub mod UndoLaws
pub mod SoundLaws
pub mod StepsToLaws
pub mod FinishLaws
pub mod ForkLaws
pub mod AccountLaws
pub mod KnownLaws
pub mod TieLaws
pub mod MadeLaws
pub mod ScheduleLaws
pub mod SeatLaws
pub mod SendLaws
