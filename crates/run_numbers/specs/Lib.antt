pub mod Labels
pub mod Rows
pub mod Numbers
pub mod Lines
pub mod Metrics
