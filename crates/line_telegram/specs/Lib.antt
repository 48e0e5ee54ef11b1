pub mod LineMessages
pub mod Greetings
