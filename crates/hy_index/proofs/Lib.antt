-- what stands below, for the crates above
pub use Rattle.hy_joins.proofs.of_nodes as of_nodes
pub mod KeyLaws
pub mod FoundLaws
pub mod IndexLaws
pub mod EditLaws
pub mod SoughtLaws
pub mod LeafLaws
pub mod PartLaws
pub mod RunLaws
pub mod FirstLaws
pub mod MapLaws
pub mod CallLaws
