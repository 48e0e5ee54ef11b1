-- What an engine does, by what is known of its station and of its network.
use Rattle.std.specs.Prelude.{ℕ, Bool, List, Option}
use Rattle.simulator_event.specs.declared.event.Event.{Event}
use Rattle.simulator_event.specs.declared.station.Station as stations
use Rattle.station_drive.specs.declared.datagrams.Datagrams as networks
use Rattle.station_drive.specs.Doings.{Doing, EngineState, Performs, Stops}
use Rattle.station_drive.specs.Drives.{BreaksRound, CutOff, Driven, MakesRound}
use Rattle.station_drive.specs.Rounds.{RunSoFar}

-- an engine: its station, its network, and the text of its record
pub record EngineView (Station Network : Type 0) : Type 0 where
  pub station : Station
  pub net : Network
  pub text : Option (List ℕ)

module _ {Station Network : Type 0} (s : stations.Ghosts Station) (n : networks.Ghosts Network) where
  -- as far as it is known
  abbrev pub engine_state : EngineView Station Network → EngineState s.State n.Told
  engine_state engine = record { site = s.site engine.station; state = s.state engine.station; net = n.told engine.net; text = engine.text }

  abbrev pub EnginePerforms : List Doing → (old new : EngineView Station Network) → Type 0
  EnginePerforms doings old new = Performs s.does n.carries doings (engine_state old) (engine_state new)

  abbrev pub EngineStops : List Doing → (old new : EngineView Station Network) → Type 0
  EngineStops doings old new = Stops s.does n.carries doings (engine_state old) (engine_state new)

  abbrev pub EngineMakesRound : RunSoFar → ℕ → List Event → List Bool → (old new : EngineView Station Network) → Type 0
  EngineMakesRound run reading asked jammed old new = MakesRound s.does n.carries run reading asked jammed (engine_state old) (engine_state new)

  abbrev pub EngineBreaksRound : RunSoFar → ℕ → List Event → List Bool → (old new : EngineView Station Network) → Type 0
  EngineBreaksRound run reading asked jammed old new = BreaksRound s.does n.carries run reading asked jammed (engine_state old) (engine_state new)

  abbrev pub EngineDriven : List (ℕ × Event) → ℕ → (readings_old readings_new : Option (List ℕ)) → (old new : EngineView Station Network) → Type 0
  EngineDriven script for_ms readings_old readings_new old new = Driven s.does n.carries script for_ms readings_old readings_new (engine_state old) (engine_state new)

  abbrev pub EngineCutOff : List (ℕ × Event) → ℕ → (readings_old readings_new : Option (List ℕ)) → (old new : EngineView Station Network) → Type 0
  EngineCutOff script for_ms readings_old readings_new old new = CutOff s.does n.carries script for_ms readings_old readings_new (engine_state old) (engine_state new)
