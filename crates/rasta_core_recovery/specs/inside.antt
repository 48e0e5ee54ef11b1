pub mod LawsBelow
pub mod LawsOfPdus
pub mod LawsOfEvents
pub mod LawsOfConnections
pub mod LawsOfEntering
