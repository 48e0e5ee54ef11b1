pub mod LongTags
pub mod LongMarks
pub mod LongEvents
pub mod LongGiven
pub mod LongAgo
pub mod LastingEnds
pub mod LastingRounds
