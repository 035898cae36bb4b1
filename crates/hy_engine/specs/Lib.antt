-- what stands below, for the crates above
pub use Rattle.hy_redo_drains.specs as of_redo_drains
-- what whoever hands drains to a log names of the crates below
pub use Rattle.hy_redo_drains.specs.Following
pub mod Engines
pub mod inside
