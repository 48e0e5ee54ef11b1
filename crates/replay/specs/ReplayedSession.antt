-- What is told of a recorded session that is applied again to a new world.
use Rattle.std.specs.Prelude.{◌≡◌, ℕ, codes, List, ◌++◌, Option, Ok}
use Rattle.std.specs.Fmt.{decimal}
use Rattle.std.specs.Io.KnownBytes.{Appends}
use Rattle.simulator.specs.layout.Entries.{Site}
use Rattle.replay_lines.specs.Replay.{Judges}
use Rattle.replay_lines.specs.Session.{session}
use Rattle.replay_lines.specs.declared.agreement.Replayed.{Replayed}
use Rattle.replay_lines.specs.declared.agreement.Replayed.TheVariants.{Same, Differs}
use Rattle.replay_lines.specs.declared.session.Entry.{Entry}
use Rattle.station_check.specs.Report.{IsSound}
use Rattle.station_check.specs.Failures.{ExplainsLines, ReadsLines}
use Rattle.station_check.specs.declared.failure.Failure.{Failure}
use Rattle.replay.specs.World.{AllSafe, IsFirst, Played, worlds}

-- how a verdict is told
abbrev pub verdict_text : Replayed → List ℕ
verdict_text Same = codes "same"
verdict_text (Differs line) = codes "differs at line " ++ decimal line

abbrev pub verdict_line : Replayed → List ℕ
verdict_line verdict = verdict_text verdict ++ codes "\n"

-- The layout is sound, no line of the record is faulty, a first world of the layout answers as the verdict says, and where
-- what was written before is known, the verdict stands after it. Whatever is seen of any world that comes from it is safe.
pub record IsReplayed (layout text : List ℕ) (verdict : Replayed) (before now : Option (List ℕ)) : Type 0 where
  pub site : Site
  pub sound : IsSound layout site
  pub entries : List Entry
  pub says : session site text ≡ Ok entries
  pub first : Played
  pub begins : IsFirst site first
  pub judged : Judges worlds first entries verdict
  pub appended : Appends before now (verdict_line verdict)
  pub safe : AllSafe first

-- a layout is sound, and a record is one of a session on it
abbrev pub CanReplay : List ℕ → List ℕ → Type 0
CanReplay layout text = ReadsLines (λ site. session site text) layout

-- Why a record isn't replayed.
abbrev pub Explains : List ℕ → List ℕ → Failure → Type 0
Explains layout text = ExplainsLines (λ site. session site text) layout
