pub mod PageLaws
pub mod MoveLaws
pub mod RootLaws
pub mod FullLaws
pub mod NumberLaws
pub mod TreeLaws
pub mod WayLaws
pub mod TopLaws
