pub mod FallsLists
pub mod FallsCalls
pub mod FallsGoes
pub mod FallsEnters
pub mod FallsEvents
