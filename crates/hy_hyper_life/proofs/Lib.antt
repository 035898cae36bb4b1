pub mod FilesLaws
pub mod ReadLaws
pub mod BeginLaws
pub mod HeldLaws
pub mod EndLaws
