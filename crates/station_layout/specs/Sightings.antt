-- What a picture says, line by line: what `station sim` prints. Lines come in any order, and need not be all there. Of
-- several lines on one thing the last counts. Empty lines and comments are passed over.
--
--     time N                                    no plan shows it
--     signal NAME stop|proceed|slow ROUTE|-     what it shows, and the route that has authority from it
--     point NAME left|right|none                or with `driven left` or `driven right` after it
--     section NAME clear|occupied
--     route NAME free|set
--     safe, unsafe                              no plan shows it
--     ok, accepted, refused .., no ..           an answer, which no plan shows
use Rattle.std.specs.Prelude.{ℕ, true, false, Bool, ◌||◌, if◌then◌else◌, List, [], ◌∷◌, codes, Result, Ok, Err}
use Rattle.std.specs.List.{enumerate_from}
use Rattle.std.specs.Option.{ok_or}
use Rattle.std.specs.Str.{bytes_eq}
use Rattle.control_table.specs.layout.Entries.{Site}
use Rattle.control_table.specs.sci_telegram.Words.{aspect_of_word, occupancy_of_word, position_of_word, side_of_word}
use Rattle.replay_words.specs.declared.fault.Fault.{Fault}
use Rattle.replay_words.specs.declared.fault.Fault.TheVariants.{Words}
use Rattle.replay_words.specs.Fault.{◌>>=◌}
use Rattle.replay_words.specs.Cut.{is_passed_over, lines, words}
use Rattle.replay_words.specs.Read.{decimal}
use Rattle.replay_lines.specs.declared.text.SessionFault.{SessionFault}
use Rattle.replay_lines.specs.Names.{point_named, section_named}
use Rattle.replay_lines.specs.Text.{at_line}
use Rattle.station_layout.specs.declared.sighting.Sighting.{Sighting}
use Rattle.station_layout.specs.declared.sighting.Sighting.TheVariants as seen
use Rattle.station_layout.specs.NamedEntries.{route_called, signal_called}

-- ---- single words

-- to which side a point is driven, no plan shows
abbrev pub side_said : List ℕ → Result (Unit {0}) Fault
side_said word = do
  side ← ok_or (side_of_word word) Words
  Ok tt

abbrev pub set_said : List ℕ → Result Bool Fault
set_said word =
    if bytes_eq word (codes "free") then Ok false
    else if bytes_eq word (codes "set") then Ok true
    else Err Words

-- a route, or a hyphen
abbrev pub authority_said : Site → List ℕ → Result (Unit {0}) Fault
authority_said l word =
    if bytes_eq word (codes "-") then Ok tt
    else do
      route ← route_called l word
      Ok tt

-- ---- lines, by the words after the first

abbrev pub time_sighting : List (List ℕ) → Result Sighting Fault
time_sighting (millis ∷ []) = do
  n ← decimal millis
  Ok seen.Other
time_sighting other = Err Words

abbrev pub signal_sighting : Site → List (List ℕ) → Result Sighting Fault
signal_sighting l (name ∷ shown ∷ authority ∷ []) = do
  aspect ← ok_or (aspect_of_word shown) Words
  signal ← signal_called l name
  has ← authority_said l authority
  Ok (seen.Signal signal aspect)
signal_sighting l other = Err Words

abbrev pub driven_said : List (List ℕ) → Result (Unit {0}) Fault
driven_said [] = Ok tt
driven_said (word ∷ side ∷ []) = if bytes_eq word (codes "driven") then side_said side else Err Words
driven_said other = Err Words

abbrev pub point_sighting : Site → List (List ℕ) → Result Sighting Fault
point_sighting l (name ∷ lies ∷ driven) = do
  is ← driven_said driven
  position ← ok_or (position_of_word lies) Words
  point ← point_named l name
  Ok (seen.Point point position)
point_sighting l other = Err Words

abbrev pub section_sighting : Site → List (List ℕ) → Result Sighting Fault
section_sighting l (name ∷ is ∷ []) = do
  occupancy ← ok_or (occupancy_of_word is) Words
  section ← section_named l name
  Ok (seen.Section section occupancy)
section_sighting l other = Err Words

abbrev pub route_sighting : Site → List (List ℕ) → Result Sighting Fault
route_sighting l (name ∷ is ∷ []) = do
  set ← set_said is
  route ← route_called l name
  Ok (seen.Route route set)
route_sighting l other = Err Words

abbrev pub verdict : List (List ℕ) → Result Sighting Fault
verdict [] = Ok seen.Other
verdict other = Err Words

-- the first word of an answer
abbrev pub is_answer : List ℕ → Bool
is_answer first = bytes_eq first (codes "ok") || bytes_eq first (codes "accepted") || bytes_eq first (codes "refused") || bytes_eq first (codes "no")

-- what no plan shows, by the first word of its line and the words after it
abbrev pub not_shown : List ℕ → List (List ℕ) → Result Sighting Fault
not_shown first rest =
    if bytes_eq first (codes "time") then time_sighting rest
    else if bytes_eq first (codes "safe") then verdict rest
    else if bytes_eq first (codes "unsafe") then verdict rest
    else if is_answer first then Ok seen.Other
    else Err Words

-- what the words of a line say
abbrev pub sighting_of : Site → List (List ℕ) → Result Sighting Fault
sighting_of l (first ∷ rest) =
    if bytes_eq first (codes "signal") then signal_sighting l rest
    else if bytes_eq first (codes "point") then point_sighting l rest
    else if bytes_eq first (codes "section") then section_sighting l rest
    else if bytes_eq first (codes "route") then route_sighting l rest
    else not_shown first rest
sighting_of l [] = Err Words

abbrev pub sighting : Site → List ℕ → Result Sighting Fault
sighting l line = sighting_of l (words line)

-- ---- a text

-- what numbered lines say, or the fault of the first faulty one
abbrev pub said : Site → List (ℕ × List ℕ) → Result (List Sighting) SessionFault
said site [] = Ok []
said site (l ∷ more) = if is_passed_over l.1 then said site more else at_line l.0 (sighting site l.1) (said site more)

-- what the lines of a picture say
abbrev pub sightings : Site → List ℕ → Result (List Sighting) SessionFault
sightings site text = said site (enumerate_from 1 (lines text))
