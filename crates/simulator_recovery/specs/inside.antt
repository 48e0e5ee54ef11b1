pub mod LawsBelow
pub mod LawsOfHost
pub mod LawsOfObjects
pub mod LawsOfInterlockings
pub mod LawsOfLinks
pub mod LawsOfMachine
pub mod LawsOfRounds
pub mod LawsOfStations
