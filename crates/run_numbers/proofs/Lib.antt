pub mod Forgotten
pub mod Pushed
pub mod Table
pub mod ReadAgain
