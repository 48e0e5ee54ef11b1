pub mod LayoutText
pub mod Pdu
pub mod Telegram
