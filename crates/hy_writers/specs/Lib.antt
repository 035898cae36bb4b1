-- what stands below, for the crates above
pub use Rattle.hy_indexes.specs.of_index as of_index
pub use Rattle.hy_indexes.specs as of_indexes
pub use Rattle.hy_indexes.specs.of_store as of_store
pub mod Accounts
pub mod Changes
pub mod Limits
pub mod Begun
pub mod Information
pub mod Payments
pub mod Purchases
pub mod Deliveries
pub mod Waiting
pub mod WorkedWrites
pub mod inside
