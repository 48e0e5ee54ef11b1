pub mod FromItsBeginning
pub mod Cancels
pub mod DisturbedCalls
pub mod Readings
pub mod Turn
pub mod Unasked
