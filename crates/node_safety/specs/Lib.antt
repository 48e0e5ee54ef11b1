pub mod Processes
pub mod Records
pub mod Runs
pub mod Orders
pub mod Journeys
pub mod WorkedOrders
