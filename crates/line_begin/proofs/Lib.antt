pub mod Untouched
mod Apart
mod FileNames
mod Events
