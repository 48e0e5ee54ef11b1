pub mod Failures
pub mod Report
pub mod inside
-- what crates above need of the crates below
pub use Rattle.node_addresses.specs as node_addresses
