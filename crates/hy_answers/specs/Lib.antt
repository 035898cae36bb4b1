-- what whoever asks names of the crate below
pub use Rattle.hy_columns.specs.Scans
pub mod Texts
pub mod WorkedTexts
pub mod inside
