pub mod Homes
pub mod Linked
pub mod Searches
pub mod Whole
