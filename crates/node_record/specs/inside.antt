-- What contracts inside the crate say. No promise names any of it.
pub mod Passing
pub mod Marking
pub mod RecordsRead
pub mod SoundTexts
pub mod CapturesSoFar
pub mod EndsSoFar
pub mod WordTables
pub mod FormsSaid
pub mod ThingsTold
