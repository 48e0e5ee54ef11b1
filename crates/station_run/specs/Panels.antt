-- What comes of a panel of a station of a layout.
use Rattle.std.specs.Prelude.{ℕ, List, [], Option}
use Rattle.station_panel.specs.Opened.{PageView}
use Rattle.station_panel.specs.Served.{IsServed}
use Rattle.station_panel.specs.declared.ending.Ending.{Ending}
use Rattle.station_panel.specs.declared.ending.Limits.{Limits}
use Rattle.station_panel.specs.panel_desk.declared.panel_line.PanelLine.{PanelLine}
use Rattle.station_panel.specs.panel_desk.declared.pictured.Pictured as pictures
use Rattle.station_panel.specs.station_drive.Engines.{EngineView}
use Rattle.station_panel.specs.station_drive.Log.{Silent, anything}
use Rattle.station_panel.specs.station_drive.declared.datagrams.Datagrams as networks
use Rattle.station_panel.specs.station_drive.declared.sockets.Sockets.{Sockets}
use Rattle.station_panel.specs.station_drive.simulator_event.declared.station.Station as stations
use Rattle.station_record.specs.replay.World.{ComesFrom, Played, played, worlds}
use Rattle.station_record.specs.replay.simulator.World.{View}
use Rattle.station_record.specs.replay.simulator_event.declared.event.Event.{Event}
use Rattle.station_run.specs.Panel.{pictured}
use Rattle.station_run.specs.Runs.{IsPrepared}
use Rattle.station_run.specs.declared.pictured_world.PicturedWorld.{PicturedWorld}

abbrev pub world_of : PicturedWorld → Played
world_of station = played station.0

abbrev pub lines_of : PicturedWorld → List PanelLine
lines_of station = pictured (world_of station)

-- what is known of worlds as a panel shows them, and of their pictures
abbrev pub shown_worlds : stations.Ghosts PicturedWorld
shown_worlds = record { State = Played; state = world_of; does = worlds; site = λ station. station.0.sited.site }

abbrev pub shown_pictures : pictures.Ghosts PicturedWorld
shown_pictures = record { lines = lines_of }

-- the same engine, whose world a panel shows
abbrev pub with_pictures : {Network : Type 0} → EngineView View Network → EngineView PicturedWorld Network
with_pictures engine = record { station = record { 0 = engine.station }; net = engine.net; text = engine.text }

-- A panel of the station of this engine was served up to its limits: from a desk of this page and of the station's own layout on, over a
-- network that wasn't disturbed yet. By events alone its first world came to its last.
pub record IsAttended {Network : Type 0} (n : networks.Ghosts Network) (page : PageView) (limits : Limits) (first : EngineView View Network)
    (readings_old readings_new text_new : Option (List ℕ)) : Type 0 where
  pub ending : Ending
  pub served : IsServed shown_worlds n shown_pictures page limits (with_pictures first) readings_old readings_new text_new ending
  pub comes : ComesFrom (played first.station) (world_of served.attended.last.station)

-- sockets tell nothing of their calls
abbrev pub silent_sockets : networks.Ghosts Sockets
silent_sockets = record { Told = Silent; told = λ _. tt; carries = anything; failed = λ sockets. sockets.failed }

-- So it was over sockets, whatever the clock and the record tell.
pub record IsAttendedSomehow (page : PageView) (limits : Limits) (first : View) : Type 0 where
  pub net : Sockets
  pub text_old : Option (List ℕ)
  pub text_new : Option (List ℕ)
  pub readings_old : Option (List ℕ)
  pub readings_new : Option (List ℕ)
  pub is : IsAttended silent_sockets page limits (record { station = first; net = net; text = text_old }) readings_old readings_new text_new

-- The layout is sound, and a panel of its first world was attended up to its limits. Every snapshot of it was safe: whatever is seen of a
-- world to which events lead from the first is safe (`IsPrepared`), so of each within its rounds and after them.
pub record IsPanel (page : PageView) (limits : Limits) : Type 0 where
  pub first : View
  pub lines : List (ℕ × Event)
  pub prepared : IsPrepared page.layout [] (played first) lines
  pub attended : IsAttendedSomehow page limits first
