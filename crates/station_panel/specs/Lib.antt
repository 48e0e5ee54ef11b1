pub mod Faults
pub mod Asked
pub mod Shown
pub mod DisturbedNetwork
pub mod Turns
pub mod Opened
pub mod Served
pub mod Endings
pub mod Inside
-- what crates above need of the crates below
pub use Rattle.panel_connections.specs as panel_connections
pub use Rattle.panel_desk.specs as panel_desk
pub use Rattle.station_drive.specs as station_drive
