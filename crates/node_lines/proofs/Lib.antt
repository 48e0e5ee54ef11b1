pub mod ReadAgain
pub mod WorkedLines
pub mod AuthorityTold
pub mod OrderWords
