pub mod Bits
pub mod Blocks
pub mod Laws
pub mod Padding
pub mod StandardFacts
pub mod Steps
