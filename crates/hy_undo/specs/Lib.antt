pub mod UndoLog
pub mod Touched
pub mod PrivatePages
pub mod Fork
pub mod Writes
pub mod inside
