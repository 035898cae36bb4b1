pub mod ListLaws
pub mod MergeLaws
pub mod SoundLaws
pub mod KnownLaws
pub mod LogLaws
pub mod CustomerLaws
mod WorkedLogs
