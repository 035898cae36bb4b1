-- What the private functions and the proofs of this crate speak of, and no public contract.
pub mod Addresses
pub mod Views
