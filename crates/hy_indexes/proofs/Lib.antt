-- what stands below, for the crates above
pub use Rattle.hy_store.proofs.of_index as of_index
pub use Rattle.hy_store.proofs as of_store
pub mod IndexLaws
pub mod KeyOrders
pub mod IndexedLaws
