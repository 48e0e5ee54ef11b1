pub mod OutboxPosts
pub mod UnconfirmedItems
pub mod Steps
pub mod LinkIdentity
pub mod Few
pub mod Verdicts
pub mod Refusals
pub mod WorkedLimit
