-- What a line of a file for the simulation says, or its lowest fault: an event, or
--
--     begins POINT left|right|none  how a point stands when the station is started
--     begins SECTION clear|occupied and how a section lies then
--     flow MS                       10 to 600000, a multiple of 10
--     picture
use Rattle.std.specs.Prelude.{ℕ, ◌==◌, ◌%◌, ◌&&◌, nat_le, if◌then◌else◌, List, [], ◌∷◌, codes, Result, Ok, Err}
use Rattle.std.specs.Str.{bytes_eq}
use Rattle.replay_words.specs.declared.fault.Fault.{Fault}
use Rattle.replay_words.specs.declared.fault.Fault.TheVariants.{Words, Number}
use Rattle.replay_words.specs.Fault.{◌>>=◌}
use Rattle.replay_words.specs.Cut.{words}
use Rattle.replay_words.specs.Read.{decimal}
use Rattle.ixl_spec.specs.layout.Entries.{Site}
use Rattle.replay_lines.specs.declared.line.SimLine.{SimLine}
use Rattle.replay_lines.specs.declared.line.SimLine.TheVariants as said
use Rattle.replay_lines.specs.Events.{event}
use Rattle.replay_lines.specs.Outset.{begins}

abbrev pub beginning : Site → List (List ℕ) → Result SimLine Fault
beginning site words = do
  of ← begins site words
  Ok (said.Begins of)

-- the milliseconds of a flow
abbrev pub milliseconds : List ℕ → Result ℕ Fault
milliseconds word = do
  n ← decimal word
  if nat_le 10 n && nat_le n 600000 && n % 10 == 0 then Ok n else Err Number

abbrev pub flow : List (List ℕ) → Result SimLine Fault
flow (word ∷ []) = do
  of ← milliseconds word
  Ok (said.Flow of)
flow other = Err Words

abbrev pub picture : List (List ℕ) → Result SimLine Fault
picture [] = Ok said.Picture
picture other = Err Words

abbrev pub happening : Site → List (List ℕ) → Result SimLine Fault
happening site words = do
  of ← event site words
  Ok (said.Event of)

-- what a line says, by its words
abbrev pub line_of : Site → List (List ℕ) → Result SimLine Fault
line_of site (first ∷ rest) =
    if bytes_eq first (codes "begins") then beginning site rest
    else if bytes_eq first (codes "flow") then flow rest
    else if bytes_eq first (codes "picture") then picture rest
    else happening site (first ∷ rest)
line_of site [] = happening site []

abbrev pub line : Site → List ℕ → Result SimLine Fault
line site text = line_of site (words text)
