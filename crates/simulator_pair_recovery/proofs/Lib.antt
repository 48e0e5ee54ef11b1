pub mod Reached
pub mod Fresh
pub mod Alike
pub mod Rounds
pub mod FirstRoundShort
pub mod FirstRoundMay
pub mod FirstRoundComes
pub mod Recovers
