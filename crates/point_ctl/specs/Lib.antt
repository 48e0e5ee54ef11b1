pub mod Drive
pub mod Controlled
pub mod History
pub mod inside
