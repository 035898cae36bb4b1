pub mod DirectoryLaws
pub mod LoadLaws
