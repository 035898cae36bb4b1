-- What parts of this crate's own contracts say; nothing here is part of what is promised.
pub mod Lengths
pub mod Places
pub mod Steps
