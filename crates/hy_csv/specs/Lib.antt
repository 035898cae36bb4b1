pub mod Fields
pub mod Texts
pub mod WorkedTexts
pub mod inside
