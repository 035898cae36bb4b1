pub mod Words
pub mod Lines
pub mod Events
pub mod Replies
pub mod WorkedEvents
pub mod WorkedReplies
pub mod inside
