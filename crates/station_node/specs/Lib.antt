-- what its process does, call by call
pub use Rattle.node_kinds.specs.Processes as Processes
pub mod Takeover
pub mod Closings
