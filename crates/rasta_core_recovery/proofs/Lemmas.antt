-- An end by itself, and rounds of two ends, over PDUs and with their bytes.
pub mod Rounds
-- Both ends come up, and stay up.
pub mod ComingUp
-- The same, where items are given meanwhile.
pub mod AtWork
-- The first good round, whatever comes in it.
pub mod FirstRound
-- Asks and answers.
pub mod Asking
-- Nothing that is sent falls.
pub mod Falling
-- How few items of an end wait.
pub mod Windows
-- What an end says confirms what it has taken.
pub mod Heartbeats
-- What was given before rounds is confirmed after them.
pub mod Lasting
