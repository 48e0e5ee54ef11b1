-- How a network keeps its datagrams. No promise of `Network` names any of it.
pub mod Entries
pub mod Indexed
-- How the code notes connections. No public promise names it.
pub mod Stay
