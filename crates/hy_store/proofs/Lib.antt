-- what stands below, for the crates above
pub use Rattle.hy_index.proofs as of_index
pub use Rattle.hy_relation.proofs as of_relation
pub mod SlotLaws
pub mod StoreLaws
pub mod EmptyLaws
pub mod ChangeLaws
pub mod PageLaws
