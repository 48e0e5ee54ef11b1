pub mod Grown
pub mod RowsMore
pub mod SpansClose
pub mod Together
pub mod SeenLast
pub mod RowsOnce
