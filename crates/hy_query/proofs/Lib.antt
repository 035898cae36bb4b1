pub mod ColumnSetLaws
pub mod DraftLaws
pub mod ListLaws
pub mod OutlineLaws
pub mod ReachedLaws
pub mod TokenLaws
pub mod WordLaws
