pub mod FirstFault
pub mod Values
pub mod Written
pub mod Text
pub mod Messages
pub mod Limits
