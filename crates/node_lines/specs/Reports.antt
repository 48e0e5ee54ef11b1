-- What field equipment tells its controller, a line each:
--
--     done 7                            the order of this number is in force
--     occupy SECTION, clear SECTION     the contact of a section tells so
--     reach left|right|none             the contacts of the point tell so
use Rattle.std.specs.Prelude.{ℕ, if◌then◌else◌, List, [], ◌∷◌, codes, Result, Ok, Err}
use Rattle.std.specs.Fmt.{decimal as written}
use Rattle.std.specs.List.{join_with_byte}
use Rattle.std.specs.Str.{bytes_eq}
use Rattle.replay_words.specs.declared.fault.Fault.{Fault}
use Rattle.replay_words.specs.declared.fault.Fault.TheVariants.{Words}
use Rattle.replay_words.specs.Fault.{◌>>=◌}
use Rattle.replay_words.specs.Read.{decimal}
use Rattle.replay_lines.specs.ixl_spec.layout.Entries.{Site}
use Rattle.replay_lines.specs.ixl_spec.sci_telegram.declared.message.Occupancy.{Occupancy}
use Rattle.replay_lines.specs.ixl_spec.sci_telegram.declared.message.Occupancy.TheVariants as occupancy
use Rattle.replay_lines.specs.Events.{position_named}
use Rattle.replay_lines.specs.Names.{section_named, section_word}
use Rattle.replay_lines.specs.Written.{occupancy_verb}
use Rattle.replay_lines.specs.ixl_spec.sci_telegram.Words.{position_word}
use Rattle.node_lines.specs.declared.report.FieldReport.{FieldReport}
use Rattle.node_lines.specs.declared.report.FieldReport.TheVariants.{Done, Section, Point}

-- ---- written

abbrev pub report_words : Site → FieldReport → List (List ℕ)
report_words site (Done number) = codes "done" ∷ written number ∷ []
report_words site (Section of told) = occupancy_verb told ∷ section_word site of ∷ []
report_words site (Point position) = codes "reach" ∷ position_word position ∷ []

abbrev pub report_text : Site → FieldReport → List ℕ
report_text site report = join_with_byte 32 (report_words site report)

-- ---- read

abbrev pub done : List (List ℕ) → Result FieldReport Fault
done (word ∷ []) = do
  number ← decimal word
  Ok (Done number)
done other = Err Words

abbrev pub contact : Site → Occupancy → List (List ℕ) → Result FieldReport Fault
contact site told (word ∷ []) = do
  of ← section_named site word
  Ok (Section of told)
contact site told other = Err Words

abbrev pub reach : List (List ℕ) → Result FieldReport Fault
reach (word ∷ []) = do
  position ← position_named word
  Ok (Point position)
reach other = Err Words

-- what words tell, or their lowest fault
abbrev pub report_said : Site → List (List ℕ) → Result FieldReport Fault
report_said site (first ∷ rest) =
    if bytes_eq first (codes "done") then done rest
    else if bytes_eq first (codes "occupy") then contact site occupancy.Occupied rest
    else if bytes_eq first (codes "clear") then contact site occupancy.Clear rest
    else if bytes_eq first (codes "reach") then reach rest
    else Err Words
report_said site [] = Err Words
