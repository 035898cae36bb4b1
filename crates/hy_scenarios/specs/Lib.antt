pub mod Marks
pub mod Changes
pub mod Commands
pub mod Scenarios
pub mod Reports
