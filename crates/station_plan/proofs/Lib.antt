pub mod ThingsDrawn
pub mod GroupsMade
pub mod Identities
pub mod PlaceFound
pub mod SubjectsOnce
pub mod Grown
