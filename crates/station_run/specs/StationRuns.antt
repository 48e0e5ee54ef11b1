-- What comes of a station that runs over a network.
use Rattle.std.specs.Prelude.{◌≤◌, ℕ, List, Option}
use Rattle.station_panel.specs.station_drive.Engines.{EngineView}
use Rattle.station_panel.specs.station_drive.declared.datagrams.Datagrams as networks
use Rattle.station_record.specs.replay.simulator.World.{View}
use Rattle.station_record.specs.replay.simulator_event.declared.event.Event.{Event}
use Rattle.station_record.specs.replay.station_check.declared.failure.Failure.{Failure}
use Rattle.station_run.specs.Runs.{EndsEarly, IsRun, state_of}

-- a station with its script, over a network and with a record
pub record StationRunView (Network : Type 0) : Type 0 where
  pub engine : EngineView View Network
  pub script : List (ℕ × Event)

module _ {Network : Type 0} (n : networks.Ghosts Network) where
  -- It ran for its time, or was stopped before: then it ran for the time that had passed.
  abbrev pub HasRun : (for_ms : ℕ) (readings_old readings_new : Option (List ℕ)) (old new : StationRunView Network) (out_old out_new : Option (List ℕ)) → Type 0
  HasRun for_ms readings_old readings_new old new out_old out_new =
      (passed : ℕ) × (passed ≤ for_ms) × IsRun n.carries old.script passed readings_old readings_new (state_of n old.engine) (state_of n new.engine) out_old out_new

  -- It ended early.
  abbrev pub HasEnded : (for_ms : ℕ) (readings_old readings_new : Option (List ℕ)) (old new : StationRunView Network) → Failure → Type 0
  HasEnded for_ms readings_old readings_new old new = EndsEarly n.carries old.script for_ms readings_old readings_new (state_of n old.engine) (state_of n new.engine)
