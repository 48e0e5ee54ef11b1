-- What a line tells, by its form.
use Rattle.std.specs.Prelude.{ℕ, List, Result, Err}
use Rattle.replay_words.specs.declared.fault.Fault.{Fault}
use Rattle.replay_words.specs.declared.fault.Fault.TheVariants.{Words}
use Rattle.node_record.specs.RecordLines.{Line, alone, breaks_off, complains, fails, followed, reads}
use Rattle.node_record.specs.declared.record_line.Form.{Form}
use Rattle.node_record.specs.declared.record_line.Form.TheVariants as form

abbrev pub other_said : Form → List (List ℕ) → Result Line Fault
other_said form.Reads words = reads words
other_said form.Fails words = fails words
other_said form.Alone words = alone words
other_said form.Followed words = followed words
other_said form.BreaksOff words = breaks_off words
other_said form.Complains words = complains words
other_said other words = Err Words
