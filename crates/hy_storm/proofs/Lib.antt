-- what stands below, for the crates above
pub use Rattle.hy_engine.proofs as of_engine
pub use Rattle.hy_engine.proofs.of_redo_drains as of_redo_drains
pub use Rattle.hy_session.proofs as of_session
pub mod LogLaws
