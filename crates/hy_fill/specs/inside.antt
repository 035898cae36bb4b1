pub mod Filling
pub mod LastOrders
