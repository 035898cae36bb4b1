pub mod Relation
pub mod inside
