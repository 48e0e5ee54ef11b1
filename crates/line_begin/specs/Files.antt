-- The files of a line that begins, and the calls by which they are kept.
use Rattle.std.specs.Prelude.{ℕ, List, [], Some, None, Result, Ok, Err}
use Rattle.line_laws.specs.declared.words.Side.{Side}
use Rattle.line_laws.specs.declared.words.Side.TheVariants.{First, Second}
use Rattle.line_laws.specs.Run.{first_file}
use Rattle.line_laws.specs.Step.{is_first}
use Rattle.line_file.specs.EndFiles.{writing}
use Rattle.whole_file.specs.declared.call.Call.{Call}
use Rattle.whole_file.specs.Calls.{Made, keep_calls}
use Rattle.line_begin.specs.declared.asked.NotBegun.{NotBegun}
use Rattle.line_begin.specs.declared.asked.NotBegun.TheVariants as answer

-- the text of the file of an end of a line that begins: the first end has the token, and the lock lies at the left
abbrev pub end_text : (name : List ℕ) → Side → List ℕ
end_text name side = writing name side (first_file (is_first side))

-- What comes of it: nothing is written, this call failed as the file of this end was kept, or both files are kept.
pub data Outcome : Type 0 where
  Refused : Outcome
  Failed : Side → Call → Outcome
  Begun : Outcome

abbrev pub outcome : {T : Type 0} → Result T NotBegun → Outcome
outcome (Ok done) = Begun
outcome (Err (answer.Refused why)) = Refused
outcome (Err (answer.NotKept side not_kept)) = Failed side not_kept.call

-- The calls at the place of an end's file. The first end's isn't touched before the second end's is kept.
abbrev pub calls_at : (name : List ℕ) → Side → Outcome → List Made
calls_at name side Refused = []
calls_at name Second (Failed Second call) = keep_calls (end_text name Second) (Some call)
calls_at name First (Failed Second call) = []
calls_at name Second (Failed First call) = keep_calls (end_text name Second) None
calls_at name First (Failed First call) = keep_calls (end_text name First) (Some call)
calls_at name side Begun = keep_calls (end_text name side) None
