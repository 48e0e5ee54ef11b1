-- the track plan
pub mod NamedEntries
pub mod Sightings
pub mod SeenByLines
pub mod PlanText
-- the control table
pub mod Names
pub mod ListedPlaces
pub mod Reasons
pub mod Row
pub mod Lines
pub mod Table
-- what is wrong, in words
pub mod Places
pub mod Search
pub mod LayoutNames
pub mod Joints
pub mod FieldKeys
pub mod ValueForms
pub mod EntryAdvice
pub mod SharedAdvice
pub mod UnknownAdvice
pub mod PortWords
pub mod EntryWords
pub mod FaultWords
pub mod RouteStart
pub mod RouteSides
pub mod SideDetails
pub mod Repeats
pub mod RouteDetails
pub mod DetailWords
pub mod Advice
pub mod AdviceTold
pub mod inside
