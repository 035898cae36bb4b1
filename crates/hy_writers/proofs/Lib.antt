-- what stands below, for the crates above
pub use Rattle.hy_indexes.proofs.of_index as of_index
pub use Rattle.hy_indexes.proofs as of_indexes
pub use Rattle.hy_indexes.proofs.of_store as of_store
pub mod SumLaws
pub mod FindLaws
pub mod WritesLaws
pub mod PaymentLaws
pub mod PurchaseLaws
pub mod IndexedLaws
pub mod LexLaws
pub mod WaitingLaws
pub mod LineLaws
pub mod OrderLinesLaws
pub mod DeliveryLaws
pub mod DeliverLaws
pub mod KeptIndexLaws
pub mod AccountLaws
pub mod InformationLaws
