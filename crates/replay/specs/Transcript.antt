-- What the lines of a file do to a station, and what is written as they are carried out.
use Rattle.std.specs.Prelude.{◌≡◌, ℕ, ◌/◌, codes, List, [], ◌∷◌, ◌++◌, length, replicate, Option, None, Result, Ok, Err}
use Rattle.std.specs.Io.KnownBytes.{Appends}
use Rattle.simulator.specs.layout.Entries.{Site}
use Rattle.simulator.specs.simulator_event.declared.event.Event.{Event}
use Rattle.simulator.specs.simulator_event.refused.Refused.{Refused}
use Rattle.simulator.specs.simulator_event.refused.Refused.TheVariants.{OutOfMemory}
use Rattle.simulator.specs.simulator_event.declared.reply.Answer.{Answer}
use Rattle.simulator.specs.simulator_event.declared.reply.Answer.TheVariants.{Done}
use Rattle.replay_lines.specs.Answers.{answer_text}
use Rattle.replay_lines.specs.Text.{lines_said}
use Rattle.replay_lines.specs.declared.line.SimLine.{SimLine}
use Rattle.replay_lines.specs.declared.line.SimLine.TheVariants as said
use Rattle.replay_lines.specs.declared.outset.Begun.{Begun}
use Rattle.station_check.specs.Report.{IsSound}
use Rattle.station_check.specs.Failures.{ExplainsLines, ReadsLines}
use Rattle.station_check.specs.declared.failure.Failure.{Failure}
use Rattle.simulator.specs.World.{IsPicture}
use Rattle.simulator.specs.simulator_spec.First.{Outset}
use Rattle.simulator.specs.simulator_spec.Flow.{Flowing, Flows}
use Rattle.replay.specs.Outset.{outset_of}
use Rattle.replay.specs.World.{IsAt, after, answer}

-- a text, and a line feed
abbrev pub feed : List ℕ → List ℕ
feed text = text ++ codes "\n"

-- a station that lies so when it is started, on which nothing has flowed
pub record IsBeginning (site : Site) (outset : Outset) (flowing : Flowing) : Type 0 where
  pub first : IsAt site outset flowing.state
  pub none_passed : flowing.passed ≡ 0
  pub none_driven : flowing.drives ≡ replicate (length site.points) None

-- What an event answers and changes: it is answered, or memory is lacking for it.
pub data Answers (event : Event) (old : Flowing) : Result Answer Refused → Flowing → Type 0 where
  answers_so : Answers event old (answer old.state event) (record old { state = after old.state event })
  lacks_memory : Answers event old (Err OutOfMemory) old

-- the line of an answer
abbrev pub answer_line : Result Answer Refused → Flowing → List ℕ
answer_line reply flowing = feed (answer_text flowing.state.sited.site reply)

-- what a line writes and changes: as the first lines say, so the station has begun
pub data Writes (old : Flowing) : SimLine → List ℕ → Flowing → Type 0 where
  begun : {of : Begun} → Writes old (said.Begins of) (answer_line (Ok Done) old) old
  event : {event : Event} {reply : Result Answer Refused} {new : Flowing} → Answers event old reply new → Writes old (said.Event event) (answer_line reply new) new
  flow : {length : ℕ} {reply : Result Answer Refused} {new : Flowing} → Flows (length / 10) old reply new → Writes old (said.Flow length) (answer_line reply new) new
  picture : {text : List ℕ} → IsPicture old.state.sited old.state.run text → Writes old said.Picture (feed text) old

-- what lines write, one after the other
pub data Transcript : Flowing → List SimLine → List ℕ → Type 0 where
  nothing : {old : Flowing} → Transcript old [] []
  line : {old new : Flowing} {line : SimLine} {later : List SimLine} {text rest : List ℕ} → Writes old line text new → Transcript new later rest → Transcript old (line ∷ later) (text ++ rest)

-- Where what was written before is known, what lines write with a station of this site, which lies as they say when it is
-- started, stands after it.
pub record IsTold (site : Site) (lines : List SimLine) (before now : Option (List ℕ)) : Type 0 where
  pub first : Flowing
  pub begins : IsBeginning site (outset_of site lines) first
  pub written : List ℕ
  pub transcript : Transcript first lines written
  pub appended : Appends before now written

-- The layout is sound, no line is faulty, and what the lines write was told.
pub record IsPlayed (layout events : List ℕ) (before now : Option (List ℕ)) : Type 0 where
  pub site : Site
  pub sound : IsSound layout site
  pub lines : List SimLine
  pub says : lines_said site events ≡ Ok lines
  pub told : IsTold site lines before now

-- a layout is sound, and lines can be played on it
abbrev pub CanPlay : List ℕ → List ℕ → Type 0
CanPlay layout events = ReadsLines (λ site. lines_said site events) layout

-- Why lines aren't played to their end.
abbrev pub Explains : List ℕ → List ℕ → Failure → Type 0
Explains layout events = ExplainsLines (λ site. lines_said site events) layout
