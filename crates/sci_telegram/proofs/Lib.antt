pub mod Names
pub mod Steps
pub mod Tables
pub mod NameFields
pub mod Codec
pub mod FaultLaws
