pub mod Ends
pub mod Pieces
pub mod Known
pub mod Named
pub mod Written
pub mod Again
pub mod Sizes
