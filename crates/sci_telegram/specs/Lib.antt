pub mod Names
pub mod Messages
pub mod Telegrams
pub mod TelegramRead
pub mod Faults
pub mod Words
