pub mod Lived
pub mod Places
pub mod Silent
pub mod Found
pub mod ToldFirst
pub mod Taken
pub mod CountedOn
pub mod KeptLast
