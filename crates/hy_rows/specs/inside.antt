pub mod Places
pub mod PartLaws
