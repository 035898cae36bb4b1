-- what stands below, for the crates above
pub use Rattle.hy_nodes.proofs as of_nodes
pub mod PageLaws
pub mod SpareLaws
pub mod PairLaws
pub mod WrittenLaws
pub mod FilledLaws
