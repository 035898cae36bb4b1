-- What the private functions and the proofs of this crate speak of, and no public contract.
pub mod Cuts
pub mod Fields
pub mod Items
pub mod Pages
pub mod Scans
pub mod Spanned
pub mod Texts
pub mod WorkedSpanned
