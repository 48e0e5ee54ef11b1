-- The track that a layout means.
pub mod Places
pub mod Ports
pub mod Paths
pub mod Throats
pub mod Tracks
pub mod Ahead
pub mod Meaning
pub use Rattle.train_machine.specs as train_machine
pub use Rattle.control_table.specs as control_table
