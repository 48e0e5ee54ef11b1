pub mod FirstLinks
pub mod LinksWith
