-- What contracts inside the crate say. No promise names any of it.
pub mod SoundTexts
pub mod Late
pub mod Places
pub mod CapturesSoFar
pub mod FirstChanges
pub mod ChartedTexts
pub mod KindLanes
