pub mod Observer
pub mod Knowledge
pub mod EachLink
pub mod Starved
pub mod Change
pub mod Exact
pub mod Chain
pub mod inside
