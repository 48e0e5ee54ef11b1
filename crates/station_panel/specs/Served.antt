-- A panel of a station, from its desk to its end.
use Rattle.std.specs.Prelude.{◌≡◌, ℕ, List, Option, None}
use Rattle.panel_desk.specs.Answers.{DeskView}
use Rattle.panel_desk.specs.declared.pictured.Pictured as pictures
use Rattle.panel_desk.specs.node_lines.layout.Entries.{Site}
use Rattle.station_drive.specs.declared.datagrams.Datagrams as networks
use Rattle.station_drive.specs.simulator_event.declared.station.Station as stations
use Rattle.station_drive.specs.Engines.{EngineView}
use Rattle.station_panel.specs.DisturbedNetwork.{DisturbedView, disturbance, undisturbed}
use Rattle.station_panel.specs.Opened.{IsOpened, PageView}
use Rattle.station_panel.specs.Turns.{Attended, CutShort, EndsSo, Moment}
use Rattle.station_panel.specs.declared.disturbed.Disturbed.{Disturbed}
use Rattle.station_panel.specs.declared.ending.Ending.{Ending}
use Rattle.station_panel.specs.declared.ending.Limits.{Limits}
use Rattle.station_panel.specs.declared.noting.Noting.{Noting}

-- an engine whose network isn't disturbed yet
abbrev pub with_undisturbed : {Station Network : Type 0} → Site → EngineView Station Network → EngineView Station (DisturbedView Network)
with_undisturbed site engine = record { station = engine.station; net = undisturbed site engine.net; text = engine.text }

-- the engine of a panel, without what its station notes
abbrev pub seen_engine : {Station Network : Type 0} → EngineView (Noting Station) (Disturbed Network) → EngineView Station (DisturbedView Network)
seen_engine engine = record { station = engine.station.station; net = disturbance engine.net; text = engine.text }

-- Panels of stations of which this is known (`s`, and `p` of their pictures), over networks of which this is known (`n`).
module _ {Station Network : Type 0} (s : stations.Ghosts Station) (n : networks.Ghosts Network) (p : pictures.Ghosts Station) where
  -- A panel with this desk was attended up to its limits.
  pub record IsAttended (limits : Limits) (engine : EngineView Station (DisturbedView Network)) (desk : DeskView)
      (readings_old readings_new text_new : Option (List ℕ)) (ending : Ending) : Type 0 where
    pub last : Moment Station Network
    pub attended : Attended s n p limits.memory engine desk readings_old readings_new last
    pub ends : EndsSo limits.for_ms attended.first attended.readings ending
    pub text : last.text ≡ text_new

  -- It was broken off after the turns that were made whole.
  pub record IsBroken (limits : Limits) (engine : EngineView Station (DisturbedView Network)) (desk : DeskView) (readings_old text_new : Option (List ℕ)) : Type 0 where
    pub last : Moment Station Network
    pub attended : Attended s n p limits.memory engine desk readings_old None last
    pub left : Moment Station Network
    pub cut : CutShort s n p last left
    pub text : left.text ≡ text_new

  -- The desk of a page was opened for the station of an engine, and its panel was attended up to its limits.
  pub record IsServed (page : PageView) (limits : Limits) (engine : EngineView Station Network) (readings_old readings_new text_new : Option (List ℕ)) (ending : Ending) : Type 0 where
    pub opened : DeskView
    pub desk : IsOpened (s.site engine.station) (p.lines engine.station) page opened
    pub attended : IsAttended limits (with_undisturbed (s.site engine.station) engine) opened readings_old readings_new text_new ending

  -- No turn was begun, or such a panel was broken off.
  pub data IsServedShort (page : PageView) (limits : Limits) (engine : EngineView Station Network) (readings_old text_new : Option (List ℕ)) : Type 0 where
    not_begun : text_new ≡ engine.text → IsServedShort page limits engine readings_old text_new
    broken : (opened : DeskView) → IsOpened (s.site engine.station) (p.lines engine.station) page opened
        → IsBroken limits (with_undisturbed (s.site engine.station) engine) opened readings_old text_new → IsServedShort page limits engine readings_old text_new
