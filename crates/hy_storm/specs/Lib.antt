-- what stands below, for the crates above
pub use Rattle.hy_engine.specs as of_engine
pub use Rattle.hy_engine.specs.of_redo_drains as of_redo_drains
pub use Rattle.hy_session.specs as of_session
pub mod Storms
