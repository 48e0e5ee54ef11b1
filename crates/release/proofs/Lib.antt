pub mod Lists
pub mod Looks
pub mod Steps
