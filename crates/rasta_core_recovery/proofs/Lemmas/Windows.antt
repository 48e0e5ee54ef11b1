pub mod WindowNumbers
pub mod StaysIn
pub mod Confirmed
pub mod ConfirmingEvents
pub mod ClientLeft
pub mod ServerConfirmed
pub mod ServerLeft
pub mod ServerWindow
