-- The parts of the test whether a snapshot is safe. No promise names any of them.
pub mod Tests
