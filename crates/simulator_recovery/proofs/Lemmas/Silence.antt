pub mod Stamps
pub mod Fresh
pub mod Network
pub mod World
pub mod Spent
pub mod Shown
