pub mod Checksum
pub mod Journeys
pub mod NodeEnds
pub mod Internet
pub mod Blocks
pub mod Captures
pub mod Faults
