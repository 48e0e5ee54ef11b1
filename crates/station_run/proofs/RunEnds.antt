-- How a run ends, by what ended it.
use Rattle.std.proofs.Common.{◌≡◌, ◌≤◌, ◌++◌, refl, rules, sym, subst, ℕ, List, Option, Result, Ok, Err}
use Rattle.std.specs.Io.KnownBytes.{Appends}
use Rattle.std.specs.Prelude.{IfErr, IsOk, OnOk, codes}
use Rattle.station_record.specs.replay.simulator_event.declared.event.Event.{Event}
use Rattle.station_panel.specs.station_drive.Doings.{EngineState}
use Rattle.station_panel.specs.station_drive.Drives.{CutOff, Driven}
use Rattle.station_panel.specs.station_drive.Told.{Call}
use Rattle.station_panel.specs.station_drive.declared.fault.DriveFault.{DriveFault}
use Rattle.station_panel.specs.station_drive.declared.fault.DriveFault.TheVariants as drive
use Rattle.station_record.specs.replay.station_check.Failures.{IsLate, Leaves}
use Rattle.station_record.specs.replay.station_check.declared.failure.Failure.{Failure}
use Rattle.station_record.specs.replay.station_check.declared.failure.Failure.TheVariants.{OutOfMemory, NotWritten}
use Rattle.station_run.specs.Inside.{IsOfMachine, IsOfRun, of_drive}
use Rattle.station_run.specs.Runs.{CanRun, EndsEarly, Explains, IsPrepared, IsRun, cannot_run, lacks_memory, lacks_memory_at_its_end, not_told, state_of}
use Rattle.station_run.specs.StationRuns.{HasEnded, HasRun, StationRunView}
use Rattle.station_panel.specs.station_drive.declared.datagrams.Datagrams as networks
use Rattle.station_record.specs.replay.World.{Played, worlds}
use Rattle.station_record.specs.replay.simulator.World.{IsPicture}

module _ {Net : Type 0} {carries : Net → Call → Net → Type 0} {lines : List (ℕ × Event)} {for_ms : ℕ} {readings_old readings_new : Option (List ℕ)} {old new : EngineState Played Net} where
  -- a drive ended before its time
  pub drive_ends : (fault : DriveFault) (why : Failure) → why ≡ of_drive fault → CutOff worlds carries lines for_ms readings_old readings_new old new → EndsEarly carries lines for_ms readings_old readings_new old new why
  drive_ends drive.OutOfMemory why is cut = subst (EndsEarly carries lines for_ms readings_old readings_new old new) (sym is) (lacks_memory cut)
  drive_ends drive.WriteFailed why is cut = subst (EndsEarly carries lines for_ms readings_old readings_new old new) (sym is) (cannot_run cut)

  -- the picture wasn't told
  pub picture_ends : {passed : ℕ} (failure : Failure) → IsLate failure → passed ≤ for_ms → Driven worlds carries lines passed readings_old readings_new old new → EndsEarly carries lines for_ms readings_old readings_new old new failure
  picture_ends OutOfMemory late within driven = lacks_memory_at_its_end within driven
  picture_ends NotWritten late within driven = not_told within driven
  picture_ends other late within driven = absurd late

  pub early_is_of_run : {failure : Failure} → EndsEarly carries lines for_ms readings_old readings_new old new failure → IsOfRun failure
  early_is_of_run (cannot_run cut) = tt
  early_is_of_run (lacks_memory cut) = tt
  early_is_of_run (lacks_memory_at_its_end within driven) = tt
  early_is_of_run (not_told within driven) = tt

-- a station ended early, as it was seen before its drive
pub has_ended : {Network : Type 0} (n : networks.Ghosts Network) (for_ms : ℕ) (readings_old readings_new : Option (List ℕ)) (seen old new : StationRunView Network) (lines : List (ℕ × Event)) (failure : Failure)
    → seen ≡ old → lines ≡ seen.script → EndsEarly n.carries lines for_ms readings_old readings_new (state_of n seen.engine) (state_of n new.engine) failure → HasEnded n for_ms readings_old readings_new old new failure
has_ended {Network} n for_ms readings_old readings_new seen old new lines failure same is ends =
    subst (λ (o : StationRunView Network). HasEnded n for_ms readings_old readings_new o new failure) same
    (subst (λ (script : List (ℕ × Event)). EndsEarly n.carries script for_ms readings_old readings_new (state_of n seen.engine) (state_of n new.engine) failure) is ends)

-- a station ran, as it was seen before its drive
pub has_run : {Network T E : Type 0} (n : networks.Ghosts Network) (for_ms passed : ℕ) (readings_old readings_new : Option (List ℕ)) (seen old new : StationRunView Network) (lines : List (ℕ × Event)) (out_old out_new : Option (List ℕ)) (result : Result T E)
    → seen ≡ old → lines ≡ seen.script → passed ≤ for_ms → Driven worlds n.carries lines passed readings_old readings_new (state_of n seen.engine) (state_of n new.engine)
    → OnOk result ((picture : List ℕ) × IsPicture new.engine.station.sited new.engine.station.run picture × Appends out_old out_new (picture ++ codes "\n"))
    → OnOk result (HasRun n for_ms readings_old readings_new old new out_old out_new)
has_run n for_ms passed readings_old readings_new seen old new lines out_old out_new (Err failure) same is within driven told = tt
has_run {Network} n for_ms passed readings_old readings_new seen old new lines out_old out_new (Ok done) same is within driven told =
    subst (λ (o : StationRunView Network). HasRun n for_ms readings_old readings_new o new out_old out_new) same
    (subst (λ (script : List (ℕ × Event)). (p : ℕ) × (p ≤ for_ms) × IsRun n.carries script p readings_old readings_new (state_of n seen.engine) (state_of n new.engine) out_old out_new) is
    (passed, within, record { driven = driven; picture = told.0; picture_is = told.1; written = told.2 }))

-- where a picture isn't written it is so for this reason
pub for_reason : {T W : Type 0} (result : Result T Failure) (out_old out_new : W) (Why : Failure → Type 0) → ((why : Failure) → IsLate why → Why why) → IfErr result (λ why. IsLate why × Leaves why out_old out_new)
    → IfErr result (λ why. Why why × Leaves why out_old out_new)
for_reason (Ok done) out_old out_new Why reason is = tt
for_reason (Err why) out_old out_new Why reason (late, leaves) = (reason why late, leaves)

-- what is prepared can run
pub can_run : {layout text : List ℕ} {first : Played} {lines : List (ℕ × Event)} → IsPrepared layout text first lines → CanRun layout text
can_run prepared = record { site = prepared.site; sound = prepared.sound; says = subst IsOk (sym prepared.says) refl }

-- the machine gave too little
pub machine_explains : (layout text : List ℕ) (failure : Failure) → CanRun layout text → IsOfMachine failure → Explains layout text failure
machine_explains layout text failure can of = search rules

-- a run that had begun ended early
pub run_explains : (layout text : List ℕ) (failure : Failure) → CanRun layout text → IsOfRun failure → Explains layout text failure
run_explains layout text failure can of = search rules
