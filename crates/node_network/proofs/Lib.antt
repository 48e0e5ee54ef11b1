pub mod Cuts
pub mod Senders
pub mod Intakes
pub mod KeptLines
pub mod NewsTold
