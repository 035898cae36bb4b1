pub mod InformationLaws
