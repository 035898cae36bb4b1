-- What parts of this crate's own contracts say; nothing here is part of what is promised.
pub mod Logs
pub mod Nexts
pub mod Reading
pub mod Seen
pub mod Sinks
