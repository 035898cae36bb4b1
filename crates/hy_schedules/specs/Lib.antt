pub mod Schedules
pub mod WorkedSchedules
pub mod Clients
pub mod Looking
pub mod WorkedClients
