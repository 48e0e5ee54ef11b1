-- What comes of a station that runs for some time.
use Rattle.std.specs.Prelude.{◌≡◌, ◌≤◌, ℕ, List, ◌++◌, codes, Option, Ok}
use Rattle.std.specs.Io.KnownBytes.{Appends}
use Rattle.station_record.specs.replay.layout.Entries.{Site}
use Rattle.station_record.specs.replay.replay_lines.Script.{script}
use Rattle.station_record.specs.replay.simulator_event.declared.event.Event.{Event}
use Rattle.station_record.specs.replay.station_check.Report.{IsSound}
use Rattle.station_record.specs.replay.simulator.World.{IsPicture, View}
use Rattle.station_panel.specs.station_drive.declared.datagrams.Datagrams as networks
use Rattle.station_panel.specs.station_drive.Doings.{EngineState}
use Rattle.station_panel.specs.station_drive.Drives.{CutOff, Driven}
use Rattle.station_panel.specs.station_drive.Engines.{EngineView}
use Rattle.station_panel.specs.station_drive.Told.{Call}
use Rattle.station_panel.specs.station_drive.Log.{Silent, anything}
use Rattle.station_record.specs.replay.station_check.Failures.{ExplainsLines, ReadsLines}
use Rattle.station_record.specs.replay.station_check.declared.failure.Failure.{Failure}
use Rattle.station_record.specs.replay.station_check.declared.failure.Failure.TheVariants.{CannotRun, OutOfMemory, NotWritten}
use Rattle.station_record.specs.replay.World.{AllSafe, IsFirst, Played, played, worlds}

-- ---- the texts

-- The layout is sound, and no line of the script is faulty: these are its lines, and this is the first world of the layout.
-- Whatever is seen of any world to which events lead from it is safe.
pub record IsPrepared (layout text : List ℕ) (first : Played) (lines : List (ℕ × Event)) : Type 0 where
  pub site : Site
  pub sound : IsSound layout site
  pub says : script site text ≡ Ok lines
  pub begins : IsFirst site first
  pub safe : AllSafe first

-- a layout is sound, and a text is a script for it
abbrev pub CanRun : List ℕ → List ℕ → Type 0
CanRun layout text = ReadsLines (λ site. script site text) layout

-- Why a station isn't prepared.
abbrev pub ExplainsTexts : List ℕ → List ℕ → Failure → Type 0
ExplainsTexts layout text = ExplainsLines (λ site. script site text) layout

-- ---- the run

-- the engine of a world, as far as it is known
abbrev pub state_of : {Network : Type 0} → (n : networks.Ghosts Network) → EngineView View Network → EngineState Played n.Told
state_of n engine = record { site = engine.station.sited.site; state = played engine.station; net = n.told engine.net; text = engine.text }

-- The station was driven for its time, and the picture of its last world was written. That world is safe.
pub record IsRun {Net : Type 0} (carries : Net → Call → Net → Type 0) (lines : List (ℕ × Event)) (for_ms : ℕ) (readings_old readings_new : Option (List ℕ))
    (old new : EngineState Played Net) (out_old out_new : Option (List ℕ)) : Type 0 where
  pub driven : Driven worlds carries lines for_ms readings_old readings_new old new
  pub picture : List ℕ
  pub picture_is : IsPicture new.state.sited new.state.run picture
  pub written : Appends out_old out_new (picture ++ codes "\n")

-- The station didn't run to its end.
pub data EndsEarly {Net : Type 0} (carries : Net → Call → Net → Type 0) (lines : List (ℕ × Event)) (for_ms : ℕ) (readings_old readings_new : Option (List ℕ))
    (old new : EngineState Played Net) : Failure → Type 0 where
  -- It was driven as for its time, but cut off, with a beginning of the record.
  cannot_run : CutOff worlds carries lines for_ms readings_old readings_new old new → EndsEarly carries lines for_ms readings_old readings_new old new CannotRun
  lacks_memory : CutOff worlds carries lines for_ms readings_old readings_new old new → EndsEarly carries lines for_ms readings_old readings_new old new OutOfMemory
  -- It was driven for its time, or until it was stopped, but has no picture.
  lacks_memory_at_its_end : {passed : ℕ} → passed ≤ for_ms → Driven worlds carries lines passed readings_old readings_new old new → EndsEarly carries lines for_ms readings_old readings_new old new OutOfMemory
  not_told : {passed : ℕ} → passed ≤ for_ms → Driven worlds carries lines passed readings_old readings_new old new → EndsEarly carries lines for_ms readings_old readings_new old new NotWritten

-- ---- the whole

-- A station ran to its end over a network that tells nothing, whatever its clock and its record tell.
pub record RunsSomehow (first : Played) (lines : List (ℕ × Event)) (for_ms : ℕ) (out_old out_new : Option (List ℕ)) : Type 0 where
  pub readings_old : Option (List ℕ)
  pub readings_new : Option (List ℕ)
  pub text : Option (List ℕ)
  pub last : EngineState Played Silent
  pub run : IsRun anything lines for_ms readings_old readings_new (record { site = first.sited.site; state = first; net = tt; text = text }) last out_old out_new

-- Both texts are sound, and a station of them ran to its end.
pub record IsWhole (layout text : List ℕ) (for_ms : ℕ) (out_old out_new : Option (List ℕ)) : Type 0 where
  pub first : Played
  pub lines : List (ℕ × Event)
  pub prepared : IsPrepared layout text first lines
  pub run : RunsSomehow first lines for_ms out_old out_new

-- Why a station doesn't run to its end: it isn't prepared; or it is, but a socket can't be opened, or the record can't be written.
abbrev pub Explains : List ℕ → List ℕ → Failure → Type 0
Explains layout text CannotRun = CanRun layout text
Explains layout text why = ExplainsTexts layout text why
