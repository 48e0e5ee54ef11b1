pub mod Cut
pub mod Fault
pub mod Read
pub mod Words
