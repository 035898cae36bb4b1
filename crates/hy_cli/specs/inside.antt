-- What private functions say of what is given to a command. No public contract speaks of it.
pub mod Given
