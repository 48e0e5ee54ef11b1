pub mod Keys
pub mod Messages
pub mod Addresses
pub mod Networks
pub mod inside
-- what crates above need of the crates below
pub use Rattle.replay_lines.specs as replay_lines
