pub mod Spaces
pub mod ColumnSets
pub mod Outlines
pub mod Lists
pub mod Drafts
pub mod Reached
