-- what goes over the network
pub mod Traffic
pub mod Lines
pub mod DecodedSession
pub mod CapturedSession
pub mod CaptureFiles
-- the course as a chart
pub mod Links
pub mod Seen
pub mod Lanes
pub mod Changes
pub mod Marks
pub mod Story
pub mod Differences
pub mod ChartedSession
pub mod inside
-- what crates above need of the crates below
pub use Rattle.replay.specs as replay
