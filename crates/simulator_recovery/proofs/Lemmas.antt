-- Steps of nodes, events, and what is kept by them.
pub mod Ground
-- Good rounds, as events of the links.
pub mod Rounds
-- Servers that hear nothing new.
pub mod Silence
-- What the two ends of a link say and expect.
pub mod Talk
-- How few items wait at an end.
pub mod Windows
-- Links come up, and are ready.
pub mod Links
-- Sections are known as they are.
pub mod Sections
-- Lamps show what was given.
pub mod Lamps
-- Set routes come to their aspect.
pub mod RoutesComing
-- Points are moved and reported, and rest.
pub mod Points
-- Routes come to be free.
pub mod RoutesGoing
