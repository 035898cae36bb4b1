pub mod RowLaws
pub mod EntryLaws
pub mod LastOrderLaws
pub mod FilledLaws
pub mod CountLaws
pub mod FrameLaws
