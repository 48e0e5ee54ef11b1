pub mod Cuts
pub mod Spelled
pub mod Written
pub mod TextInParts
