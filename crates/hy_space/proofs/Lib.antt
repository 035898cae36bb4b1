pub mod UserLaws
pub mod TableLaws
pub mod SpaceLaws
pub mod ChildLaws
pub mod SizeLaws
pub mod SoundLaws
