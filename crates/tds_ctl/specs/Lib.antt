pub mod Sections
pub mod Controlled
pub mod History
pub mod inside
