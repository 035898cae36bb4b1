pub mod LineLaws
pub mod PartLaws
pub mod PurchaseLaws
pub mod WhoLaws
pub mod WriterLaws
