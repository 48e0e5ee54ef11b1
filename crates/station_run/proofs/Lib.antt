pub mod RunEnds
pub mod Seen
pub mod PanelWorlds
pub mod PanelsBeside
