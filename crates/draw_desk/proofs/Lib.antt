pub mod Texts
pub mod Shallow
pub mod Comes
pub mod Done
pub mod Written
pub mod WorkedRequests
