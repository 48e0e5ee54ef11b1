pub mod Lists
pub mod Signals
pub mod Points
pub mod Frames
pub mod Kept
pub mod Broken
pub mod Composed
