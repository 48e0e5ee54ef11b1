pub mod RowLaws
pub mod LockLaws
pub mod KeptLaws
pub mod ApartLaws
