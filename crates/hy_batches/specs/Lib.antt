pub mod Batches
pub mod Encoding
pub mod Grammar
pub mod Logs
pub mod Sinks
pub mod WorkedBatches
pub mod inside
