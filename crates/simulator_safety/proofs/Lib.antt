pub mod FarEndCalls
pub mod Told
pub mod ClientKnowledge
pub mod Quiet
pub mod Readable
mod WorldLists
mod Rows
mod Safe
mod Held
mod There
mod Represented
mod FlightEnds
mod HeldInFlight
mod FlightTaken
mod ReadOff
mod FirstWorld
mod StationLists
mod StationCalls
mod StationEnds
mod Step
mod InterlockingSteps
mod Restart
mod TimePasses
mod Time
mod ControllerLists
mod Elsewhere
mod Changed
mod ControllerSteps
mod AtSignals
mod AtPoints
mod ControllersReached
mod AtDetectors
mod AtNodes
mod AllEvents
pub mod TrueEvents
