-- what stands below, for the crates above
pub use Rattle.hy_redo_drains.proofs as of_redo_drains
-- what whoever hands drains to a log proves with
pub use Rattle.hy_redo_drains.proofs.FollowLaws
pub mod RunLaws
pub mod MineLaws
pub mod AnswerLaws
pub mod RoomLaws
