-- What contracts inside the crate say, step by step. No promise names any of it.
pub mod WaySearch
pub mod RouteParts
pub mod ApproachSearch
pub mod HindranceSearch
pub mod WaysKept
