pub mod Words
pub mod Telegrams
pub mod ReadBack
pub mod Datagrams
pub mod DecodedLine
pub mod inside
