pub mod Verdicts
pub mod LayoutFile
pub mod PlaceWords
pub mod EntryWords
pub mod FaultLines
pub mod StationTexts
pub mod Summary
pub mod RailwayVerdict
pub mod EachTold
-- what crates above need of the crates below
pub use Rattle.railway_layout.specs as railway_layout
