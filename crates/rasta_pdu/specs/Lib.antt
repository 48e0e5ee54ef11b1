pub mod Items
pub mod Values
pub mod SafetyCode
pub mod Spelling
pub mod PduRead
pub mod Faults
pub mod Header
