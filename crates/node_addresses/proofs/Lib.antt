pub mod AddressesSoFar
pub mod Refuted
pub mod Explained
pub mod NetworksExplained
pub mod Among
