pub mod Talk
pub mod Host
pub mod Sites
