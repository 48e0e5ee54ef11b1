pub mod Runs
pub mod StationRuns
pub mod Panel
pub mod Panels
pub mod Inside
-- what crates above need of the crates below
pub use Rattle.station_record.specs as station_record
