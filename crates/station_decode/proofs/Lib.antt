pub mod WordsInLine
pub mod SaidAgain
pub mod Identified
pub mod Versions
pub mod DecodedWords
