pub mod Nodes
pub mod Field
pub mod inside
