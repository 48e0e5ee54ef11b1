pub mod Connections
-- The parts of a world, and the lines of a picture one by one. No promise of `World` names any of it.
pub mod Parts
pub mod EventTest
pub mod Lines
