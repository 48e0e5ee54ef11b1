-- The commands and restarts of a session, each once, in their order, with their answers.
use Rattle.std.specs.Prelude.{◌+◌, ℕ, Bool, true, false, if◌then◌else◌, List, [], ◌∷◌, ◌++◌, codes, string_bytes, Option, Some, None}
use Rattle.lane_chart.specs.declared.change.Happening.{Happening}
use Rattle.replay.specs.layout.Entries.{Site}
use Rattle.replay.specs.simulator_event.declared.event.Event.{Event}
use Rattle.replay.specs.simulator_event.declared.event.Event.TheVariants as event
use Rattle.replay.specs.simulator_spec.Tried.{Played, after}
use Rattle.replay.specs.replay_lines.Answers.{answer_text}
use Rattle.replay.specs.replay_lines.Written.{event_line}
use Rattle.replay.specs.replay_lines.declared.session.Entry.{Entry}

-- a command or a restart: its line, true time before it, the node that is made anew, and its words
pub record Mark : Type 0 where
  pub line : ℕ
  pub time : ℕ
  pub node : Option ℕ
  pub words : List ℕ

abbrev pub seen_mark : Happening → Mark
seen_mark happening = record { line = happening.line; time = happening.time; node = happening.node; words = string_bytes happening.words }

abbrev pub is_marked : Event → Bool
is_marked (event.Request command) = true
is_marked (event.Restart node clock first) = true
is_marked _ = false

abbrev pub node_of : Event → Option ℕ
node_of (event.Restart node clock first) = Some node.0
node_of _ = None

-- the words of an event, and after them its answer
abbrev pub with_answer : Option (List ℕ) → List ℕ → List ℕ
with_answer (Some happened) answered = happened ++ (codes " = " ++ answered)
with_answer None answered = answered

abbrev pub words_of : Site → Entry → List ℕ
words_of site entry = with_answer (event_line site entry.event) (answer_text site entry.answer)

abbrev pub mark_to : ℕ → Played → Entry → Mark
mark_to line now entry = record { line = line; time = now.run.time; node = node_of entry.event; words = words_of now.sited.site entry }

abbrev pub mark_of : ℕ → Played → Entry → List Mark
mark_of line now entry = if is_marked entry.event then mark_to line now entry ∷ [] else []

-- those of the events from a line on
unfoldable pub marks_of : ℕ → Played → List Entry → List Mark
marks_of line now [] = []
marks_of line now (entry ∷ later) = mark_of line now entry ++ marks_of (line + 1) (after now entry.event) later
