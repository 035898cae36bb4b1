-- what stands below, for the crates above
pub use Rattle.hy_partition.proofs as of_partition
pub use Rattle.hy_partition.proofs.of_tpcc as of_tpcc
pub mod TurnLaws
pub mod WalkLaws
pub mod NamedWalkLaws
pub mod StillLaws
pub mod FullLaws
pub mod PlaceLaws
pub mod RefusedLaws
pub mod PairLaws
pub mod DoingLaws
pub mod ReplyLaws
pub mod StepLaws
pub mod BehindLaws
pub mod KeepLaws
pub mod BeforeLaws
pub mod EnterLaws
pub mod InformLaws
pub mod NumberedLaws
pub mod AcceptLaws
pub mod CrossLaws
pub mod HeldLaws
pub mod WholeLaws
pub mod SeatLaws
pub mod LookingLaws
pub mod CountLaws
pub mod UnsettledLaws
