pub mod Places
pub mod Apart
pub mod Said
pub mod Rows
pub mod Listed
pub mod Either
