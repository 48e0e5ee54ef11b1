pub mod Clocks
pub mod Rounds
pub mod Sends
pub mod Arrives
pub mod LinkRounds
pub mod AtWork
pub mod FlowsStay
