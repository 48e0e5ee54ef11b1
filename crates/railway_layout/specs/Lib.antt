pub mod Written
pub mod Reading
pub mod Text
pub mod Messages
pub mod Advice
pub mod Stations
pub mod States
pub mod Ends
pub mod Way
pub mod Rules
pub mod Faults
pub mod Railway
pub mod Locked
-- what crates above need of the crates below
pub use Rattle.control_table.specs as control_table
