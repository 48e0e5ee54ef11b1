-- Why it isn't told what happens in a session.
use Rattle.std.specs.Prelude.{List}
use Rattle.replay.specs.World.{AnswersOtherwiseAt, IsFirst}
use Rattle.replay.specs.layout.Entries.{Site}
use Rattle.replay.specs.simulator_spec.Tried.{Played}
use Rattle.replay.specs.replay_lines.declared.session.Entry.{Entry}
use Rattle.replay.specs.station_check.declared.failure.Failure.{Failure}
use Rattle.replay.specs.station_check.declared.failure.Failure.TheVariants.{Differs, OutOfMemory}

-- An event answers otherwise than it was recorded, the first of a session that begins with this world; or memory is lacking.
abbrev pub DiffersFrom : Played → List Entry → Failure → Type 0
DiffersFrom first entries (Differs line) = AnswersOtherwiseAt line first entries
DiffersFrom first entries OutOfMemory = Unit {0}
DiffersFrom first entries why = ⊥

-- So it is from a first world of a layout on; or memory is lacking.
abbrev pub DiffersIn : Site → List Entry → Failure → Type 0
DiffersIn site entries (Differs line) = (first : Played) × IsFirst site first × AnswersOtherwiseAt line first entries
DiffersIn site entries OutOfMemory = Unit {0}
DiffersIn site entries why = ⊥
