-- Why there is no line of a name to begin.
use Rattle.std.specs.Prelude.{◌≡◌, ◌≢◌, ℕ, List, None, false, find}
use Rattle.railway_check.specs.railway_layout.Faults.{is_line_called}
use Rattle.railway_check.specs.railway_layout.Written.{RailwayText}
use Rattle.railway_check.specs.RailwayVerdict.{HasRailway, IsVerdict}
use Rattle.railway_check.specs.Verdicts.{VerdictState}
use Rattle.line_begin.specs.declared.named_line.NoLine.{NoLine}
use Rattle.line_begin.specs.declared.named_line.NoLine.TheVariants.{Faulty, Unknown, OutOfMemory}

-- The check of the railway tells what is wrong with it, or it is sound and has no line of this name.
abbrev pub Explains : RailwayText → (layouts : List (List ℕ)) → List VerdictState → (name : List ℕ) → NoLine → Type 0
Explains text layouts verdicts name (Faulty verdict) = IsVerdict false text layouts verdicts verdict × (verdict.status ≢ 0)
Explains text layouts verdicts name Unknown = HasRailway text layouts × (find (is_line_called name) text.lines ≡ None)
Explains text layouts verdicts name OutOfMemory = Unit {0}
