-- What a recorded session says: on each line an event, the word `=` and its answer. No line is passed over.
use Rattle.std.specs.Prelude.{ℕ, List, [], ◌∷◌, Result, Ok}
use Rattle.std.specs.List.{enumerate_from}
use Rattle.replay_words.specs.declared.fault.Fault.{Fault}
use Rattle.replay_words.specs.Fault.{◌>>=◌}
use Rattle.replay_words.specs.Cut.{event_and_answer, lines, words}
use Rattle.ixl_spec.specs.layout.Entries.{Site}
use Rattle.replay_lines.specs.declared.text.SessionFault.{SessionFault}
use Rattle.replay_lines.specs.Events.{event}
use Rattle.replay_lines.specs.Text.{at_line}
use Rattle.replay_lines.specs.AnswerRead.{answer}
use Rattle.replay_lines.specs.declared.session.Entry.{Entry}

-- the entry of a line, or its lowest fault
abbrev pub entry : Site → List ℕ → Result Entry Fault
entry site line = do
  sides ← event_and_answer (words line)
  happened ← event site sides.0
  answered ← answer site happened sides.1
  Ok (record { event = happened; answer = answered })

-- the entries of numbered lines, or the fault of the first faulty one
abbrev pub entries : Site → List (ℕ × List ℕ) → Result (List Entry) SessionFault
entries site [] = Ok []
entries site (l ∷ more) = at_line l.0 (entry site l.1) (entries site more)

-- the entries of a text
abbrev pub session : Site → List ℕ → Result (List Entry) SessionFault
session site text = entries site (enumerate_from 1 (lines text))
