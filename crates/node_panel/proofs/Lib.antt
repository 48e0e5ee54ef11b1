pub mod CallsOn
pub mod Lists
pub mod NumbersHeard
pub mod ProcessHeard
pub mod Questions
pub mod ReadAgain
pub mod Successes
