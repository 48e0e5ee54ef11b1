pub mod Links
pub mod Watches
pub mod Histories
pub mod Worked
-- what crates above need of the crates below
pub use Rattle.datagram_hold.specs as datagram_hold
