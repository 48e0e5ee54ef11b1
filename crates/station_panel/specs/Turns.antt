-- The turns of a panel: requests are answered, what was asked for happens in a round, and the desk shows what is seen after it.
-- A node hears in a round what the network answers it; what is sent is handed to the network, or is lost or late by what is disturbed.
use Rattle.std.specs.Prelude.{◌≡◌, ◌≤◌, ◌-◌, ◌/◌, ℕ, List, [], ◌∷◌, ◌++◌, length, map, Option}
use Rattle.panel_connections.specs.Served.{Serves}
use Rattle.panel_desk.specs.Answers.{Answered, DeskView}
use Rattle.panel_desk.specs.declared.pictured.Pictured as pictures
use Rattle.panel_desk.specs.StandingOrders.{StandingView, Tried, none_standing, obeyed_all}
use Rattle.panel_desk.specs.node_lines.closings.declared.auxiliary.AuxiliaryCounts.{AuxiliaryCounts}
use Rattle.panel_desk.specs.node_lines.layout.Entries.{Site}
use Rattle.panel_desk.specs.node_lines.layout.declared.ids.RouteId.{RouteId}
use Rattle.panel_desk.specs.node_lines.replay_lines.Names.{node_names}
use Rattle.panel_desk.specs.node_lines.simulator_event.declared.event.Event.{Event}
use Rattle.station_drive.specs.declared.datagrams.Datagrams as networks
use Rattle.station_drive.specs.simulator_event.declared.station.Station as stations
use Rattle.station_drive.specs.Doings.{EngineState}
use Rattle.station_drive.specs.Drives.{BreaksRound, MakesRound, beginning}
use Rattle.station_drive.specs.Engines.{EngineView}
use Rattle.station_drive.specs.Rounds.{RunSoFar, run_after}
use Rattle.station_drive.specs.Told.{Grows}
use Rattle.station_panel.specs.Asked.{events_asked, faults_after, requested}
use Rattle.station_panel.specs.DisturbedNetwork.{DisturbedView, Passes, Released, heeded}
use Rattle.station_panel.specs.Faults.{FaultsView, no_faults}
use Rattle.station_panel.specs.declared.ending.Ending.{Ending}
use Rattle.station_panel.specs.declared.ending.Ending.TheVariants.{TimeIsOver, MemoryIsFull, Stopped}
use Rattle.panel_desk.specs.Boards.{Notes, shown_anew}
use Rattle.station_panel.specs.Shown.{own_lines}

-- a panel whose time is over ends at a reading so many milliseconds after the first, or more
abbrev pub IsOver : ℕ → ℕ → ℕ → Ending → Type 0
IsOver for_ms first last TimeIsOver = for_ms ≤ (last - first) / 1000
IsOver for_ms first last MemoryIsFull = Unit {0}
IsOver for_ms first last Stopped = Unit {0}

-- so the last of these readings
abbrev pub EndsSo : ℕ → ℕ → List ℕ → Ending → Type 0
EndsSo for_ms first readings ending = (earlier : List ℕ) × (last : ℕ) × (readings ≡ earlier ++ last ∷ []) × IsOver for_ms first last ending

-- a panel between two turns: its station and its network, how far the run has come, its desk, what is disturbed, what it does by itself,
-- and the text of the record
pub record Moment (Station Network : Type 0) : Type 0 where
  pub station : Station
  pub net : DisturbedView Network
  pub run : RunSoFar
  pub desk : DeskView
  pub faults : FaultsView
  pub orders : StandingView
  pub text : Option (List ℕ)

-- the commands were taken from the desk
abbrev pub emptied : DeskView → DeskView
emptied desk = record desk { waiting = [] }

-- these numbers were told
abbrev pub with_numbers : List (Option ℕ) → DeskView → DeskView
with_numbers numbers desk = record desk { numbers = numbers }

-- the commands were taken, what they disturb is disturbed, and what the panel does by itself is this
abbrev pub wanted : {Station Network : Type 0} → StandingView → Moment Station Network → Moment Station Network
wanted orders old = record old { desk = emptied old.desk; faults = faults_after old.desk.waiting old.faults; orders = orders }

-- a panel that begins at a first reading: its station, its network, and the text of its record stand in its engine
abbrev pub beginning_of : {Station Network : Type 0} → Site → EngineView Station (DisturbedView Network) → DeskView → ℕ → Moment Station Network
beginning_of site engine desk first = record {
  station = engine.station;
  net = engine.net;
  run = beginning site [] first;
  desk = desk;
  faults = no_faults (length (node_names site)) (length site.points);
  orders = none_standing (length site.routes);
  text = engine.text;
}

-- ---- what comes of that, where this is known of stations (`s`), of networks (`n`), and of the pictures of stations (`p`)

-- the events for which the commands ask that wait
abbrev pub asked_at : {Station Network : Type 0} → stations.Ghosts Station → Moment Station Network → List Event
asked_at s m = events_asked (length (s.site m.station).routes) m.desk.waiting

-- the engine of a panel, as far as it is known
abbrev pub engine_of : {Station Network : Type 0} → (s : stations.Ghosts Station) → Moment Station Network → EngineState s.State (DisturbedView Network)
engine_of s m = record { site = s.site m.station; state = s.state m.station; net = m.net; text = m.text }

module _ {Station Network : Type 0} (s : stations.Ghosts Station) (n : networks.Ghosts Network) where
  -- What is disturbed is disturbed as was asked for, and what came late and is due went on. After that there was a round at a reading. In
  -- it each node heard what the network answered it, and what each event added was handed to the network, or was lost or late (`Passes`).
  pub record HasRound (reading : ℕ) (asked : List Event) (old new : Moment Station Network) : Type 0 where
    pub net : DisturbedView Network
    pub begun : Released n.told n.carries (heeded old.faults reading old.net) net
    pub round : MakesRound s.does (Passes n.told n.carries) old.run reading asked old.faults.jammed (record (engine_of s old) { net = net }) (engine_of s new)

  -- So it was, but the round was broken off.
  pub record HasPartOfRound (reading : ℕ) (asked : List Event) (old new : Moment Station Network) : Type 0 where
    pub net : DisturbedView Network
    pub begun : Released n.told n.carries (heeded old.faults reading old.net) net
    pub round : BreaksRound s.does (Passes n.told n.carries) old.run reading asked old.faults.jammed (record (engine_of s old) { net = net }) (engine_of s new)

module _ {Station Network : Type 0} (s : stations.Ghosts Station) (p : pictures.Ghosts Station) where
  -- At a reading these events were asked for: by the commands that waited at the desk, each once and in order; and behind them, that the
  -- routes be set which the panel tries to set by itself, by the picture that it has of the station and what the commands asked of it.
  pub record Wants (reading : ℕ) (old : Moment Station Network) (events : List Event) (new : Moment Station Network) : Type 0 where
    pub routes : List RouteId
    pub tried : Tried (s.site old.station) (p.lines old.station) (reading / 1000) (obeyed_all old.desk.waiting old.orders) routes new.orders
    pub events_are : events ≡ asked_at s old ++ map requested routes
    pub new_is : new ≡ wanted new.orders old

module _ {Station Network : Type 0} (s : stations.Ghosts Station) (n : networks.Ghosts Network) (p : pictures.Ghosts Station) where
  -- A round wasn't made whole, or isn't shown whole: it wasn't begun, and nothing happened; or it was cut off, and the record has a
  -- beginning of its lines; or it was made.
  pub data IsLivedShort (reading : ℕ) (old new : Moment Station Network) : Type 0 where
    before_it : new.station ≡ old.station → new.net ≡ old.net → new.text ≡ old.text → IsLivedShort reading old new
    within_it : (events : List Event) (mid : Moment Station Network) → Wants s p reading old events mid → HasPartOfRound s n reading events mid new → IsLivedShort reading old new
    after_it : (events : List Event) (mid : Moment Station Network) → Wants s p reading old events mid → HasRound s n reading events mid new → IsLivedShort reading old new

  -- Why a panel ended before its time, after turns that it made whole: nothing more happened, or a further turn ended so.
  pub data CutShort (last new : Moment Station Network) : Type 0 where
    at_once : new.station ≡ last.station → new.net ≡ last.net → new.text ≡ last.text → CutShort last new
    in_a_turn : (reading : ℕ) (served : DeskView) → Serves Answered last.desk served → IsLivedShort reading (record last { desk = served }) new → CutShort last new

  -- There was a round, in which each command that waited at the desk was taken once, in the order in which they came, and then what the
  -- panel asks for by itself. The desk shows the picture of the station after it, what the panel shows of itself, and some numbers; then it
  -- noted lines in its log.
  pub record IsLived (limit reading : ℕ) (old new : Moment Station Network) : Type 0 where
    pub events : List Event
    pub mid : Moment Station Network
    pub wants : Wants s p reading old events mid
    pub round : HasRound s n reading events mid new
    pub run : new.run ≡ run_after s.does (s.state new.station) old.run reading
    pub faults : new.faults ≡ mid.faults
    pub orders : new.orders ≡ mid.orders
    pub counts : AuxiliaryCounts
    pub bytes : ℕ
    pub numbers : List (Option ℕ)
    pub notes : Notes (shown_anew (s.site new.station) (p.lines new.station ++ own_lines new.faults new.orders counts bytes limit) (with_numbers numbers (emptied old.desk))) new.desk

  -- Requests were answered, one after another, and by nothing else was the desk changed; then there was such a round.
  pub record IsTurn (limit reading : ℕ) (old new : Moment Station Network) : Type 0 where
    pub served : DeskView
    pub serves : Serves Answered old.desk served
    pub lived : IsLived limit reading (record old { desk = served }) new

  -- turns at these readings led from one moment to another
  pub data Turns (limit : ℕ) (first : Moment Station Network) : List ℕ → Moment Station Network → Type 0 where
    begins : Turns limit first [] first
    goes_on : {readings : List ℕ} {mid new : Moment Station Network} → Turns limit first readings mid → (reading : ℕ) → IsTurn limit reading mid new
        → Turns limit first (readings ++ reading ∷ []) new

  -- The panel was begun at a first reading, and each further reading made a turn.
  pub record Attended (limit : ℕ) (engine : EngineView Station (DisturbedView Network)) (desk : DeskView)
      (readings_old readings_new : Option (List ℕ)) (last : Moment Station Network) : Type 0 where
    pub first : ℕ
    pub readings : List ℕ
    pub read : Grows readings_old readings_new (first ∷ readings)
    pub turns : Turns limit (beginning_of (s.site engine.station) engine desk first) readings last
