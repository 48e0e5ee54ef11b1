-- What contracts inside the crate say. No promise names any of it, but by the nodes as the engine sees them.
pub mod ControllerNodes
pub mod ControllerSteps
pub mod InterlockingSteps
