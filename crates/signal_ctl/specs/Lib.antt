pub mod Lamp
pub mod Signal
pub mod History
pub mod inside
