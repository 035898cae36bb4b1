pub mod GroupLaws
pub mod NumberLaws
pub mod RunLaws
pub mod ColumnLaws
pub mod LineLaws
pub mod DeliveredLaws
