-- What the proofs of this crate speak of, and no public contract.
pub mod Places
pub mod KeyPairs
