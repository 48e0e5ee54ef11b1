-- The event that the words of a line say, or the lowest fault of the words. Numbers are decimal and below
-- 2^64, bytes hexadecimal; nodes, sections, points and routes are called by their names.
--
--     set ROUTE, cancel ROUTE, resume     Request; any word that names no route stands for one that the table lacks
--     release ROUTE                       Request
--     move POINT left|right               Request; any word that names no point stands for one that the layout lacks
--     close THING, open THING             Request; a section, a point at both sides, a signal or a route, or what isn't there
--     close POINT left|right, open ..     Request
--     occupy SECTION, clear SECTION       Occupy
--     tick NODE                           Tick
--     time D NODE=E ..                    Time, in microseconds; the clock of a node that isn't named goes on by D
--     deliver NODE HEX                    Deliver, of 0 to 512 bytes; for 0 bytes `-`
--     lose HEX                            Lose, of 1 to 512 bytes
--     reach POINT left|right|none         Reach
--     restart NODE CLOCK SN               Restart; at most 9000000000000, and 4294967295
use Rattle.std.specs.Prelude.{ℕ, nat_le, Bool, false, if◌then◌else◌, List, [], ◌∷◌, length, replicate, slice_set, codes, None, Result, Ok, Err}
use Rattle.std.specs.List.{list_any}
use Rattle.std.specs.Option.{ok_or, option_map_or}
use Rattle.std.specs.Str.{bytes_eq}
use Rattle.replay_words.specs.declared.fault.Fault.{Fault}
use Rattle.replay_words.specs.declared.fault.Fault.TheVariants.{Words, Name, Number}
use Rattle.replay_words.specs.Fault.{both, ◌>>=◌}
use Rattle.replay_words.specs.Cut.{name_and_number}
use Rattle.replay_words.specs.Read.{decimal, hexadecimal, hexadecimal_or_none}
use Rattle.ixl_spec.specs.layout.Entries.{Site}
use Rattle.ixl_spec.specs.declared.command.Command.{Command}
use Rattle.ixl_spec.specs.declared.command.Command.TheVariants as command
use Rattle.ixl_spec.specs.layout.declared.ids.PointId.{PointId}
use Rattle.ixl_spec.specs.closings.declared.thing.Named.{Named}
use Rattle.ixl_spec.specs.closings.declared.thing.Named.TheVariants.{One}
use Rattle.ixl_spec.specs.closings.declared.thing.Thing.TheVariants as thing
use Rattle.ixl_spec.specs.closings.Words.{named, side_said}
use Rattle.ixl_spec.specs.sci_telegram.declared.message.Side.{Side}
use Rattle.ixl_spec.specs.sci_telegram.declared.message.Occupancy.TheVariants as occupancy
use Rattle.ixl_spec.specs.sci_telegram.declared.message.Position.{Position}
use Rattle.ixl_spec.specs.sci_telegram.Words.{position_of_word}
use Rattle.ixl_spec.specs.rasta_core.time.TheConstants.{LATEST_CLOCK}
use Rattle.simulator_event.specs.declared.event.Event.{Event}
use Rattle.simulator_event.specs.declared.event.Event.TheVariants.{Request, Occupy, Tick, Time, Deliver, Lose, Reach, Restart}
use Rattle.replay_lines.specs.Names.{node_named, node_names, point_named, route_named, section_named}

-- ---- single words

-- where a point stands, or comes to lie
abbrev pub position_named : List ℕ → Result Position Fault
position_named word = ok_or (position_of_word word) Words

-- the side that a word says
abbrev pub side_named : List ℕ → Result Side Fault
side_named word = ok_or (side_said word) Words

-- the point that a word names; any other word stands for the one after the last
abbrev pub point_or_last : Site → Result PointId Fault → PointId
point_or_last site (Ok point) = point
point_or_last site (Err fault) = record { 0 = length site.points }

abbrev pub point_meant : Site → List ℕ → PointId
point_meant site word = point_or_last site (point_named site word)

-- what a word names; any other word stands for the route after the last
abbrev pub whole_named : Site → List ℕ → Named
whole_named site word = option_map_or (λ n. n) (named site word None) (One (thing.Route (record { 0 = length site.routes })))

abbrev pub sided_named : Site → List ℕ → Side → Named
sided_named site word side = One (thing.Point (point_meant site word) side)

-- what the words of a close or an open name
abbrev pub named_by : Site → List (List ℕ) → Result Named Fault
named_by site (word ∷ []) = Ok (whole_named site word)
named_by site (word ∷ side ∷ []) = do
  of ← side_named side
  Ok (sided_named site word of)
named_by site other = Err Words

-- a number that is at most `most`
abbrev pub number_up_to : ℕ → List ℕ → Result ℕ Fault
number_up_to most word = do
  n ← decimal word
  if nat_le n most then Ok n else Err Number

-- ---- words `NODE=E`

-- each word has this form
abbrev pub are_formed : List (List ℕ) → Result (Unit {0}) Fault
are_formed [] = Ok tt
are_formed (word ∷ more) = do
  sides ← name_and_number word
  are_formed more

-- the sides of a word have the name
abbrev pub is_for : List ℕ → Result (List ℕ × List ℕ) Fault → Bool
is_for name (Ok sides) = bytes_eq sides.0 name
is_for name (Err fault) = false

-- the word has the name
abbrev pub has_name : List ℕ → List ℕ → Bool
has_name name word = is_for name (name_and_number word)

-- each word names a node, and no two name the same
abbrev pub name_nodes : Site → List (List ℕ) → Result (Unit {0}) Fault
name_nodes site [] = Ok tt
name_nodes site (word ∷ more) = do
  sides ← name_and_number word
  node ← node_named site sides.0
  if list_any (has_name sides.0) more then Err Name else name_nodes site more

-- the steps of the clocks, of which each word sets that of its node
abbrev pub steps_set : Site → List (List ℕ) → List ℕ → Result (List ℕ) Fault
steps_set site [] steps = Ok steps
steps_set site (word ∷ more) steps = do
  sides ← name_and_number word
  node ← node_named site sides.0
  step ← decimal sides.1
  steps_set site more (slice_set steps node.0 step)

-- ---- events, by the words after the first

abbrev pub set : Site → List (List ℕ) → Result Event Fault
set site (route ∷ []) = Ok (Request (command.Request (route_named site route)))
set site other = Err Words

abbrev pub cancel : Site → List (List ℕ) → Result Event Fault
cancel site (route ∷ []) = Ok (Request (command.Cancel (route_named site route)))
cancel site other = Err Words

abbrev pub resume : List (List ℕ) → Result Event Fault
resume [] = Ok (Request command.Resume)
resume other = Err Words

abbrev pub release : Site → List (List ℕ) → Result Command Fault
release site (route ∷ []) = Ok (command.Release (route_named site route))
release site other = Err Words

abbrev pub move_point : Site → List (List ℕ) → Result Command Fault
move_point site (point ∷ side ∷ []) = do
  of ← side_named side
  Ok (command.Move (point_meant site point) of)
move_point site other = Err Words

abbrev pub close_named : Site → List (List ℕ) → Result Command Fault
close_named site words = do
  of ← named_by site words
  Ok (command.Close of)

abbrev pub open_named : Site → List (List ℕ) → Result Command Fault
open_named site words = do
  of ← named_by site words
  Ok (command.Open of)

-- the event in which a command comes
abbrev pub requested : Result Command Fault → Result Event Fault
requested asked = do
  of ← asked
  Ok (Request of)

abbrev pub occupy : Site → List (List ℕ) → Result Event Fault
occupy site (section ∷ []) = do
  of ← section_named site section
  Ok (Occupy of occupancy.Occupied)
occupy site other = Err Words

abbrev pub clear : Site → List (List ℕ) → Result Event Fault
clear site (section ∷ []) = do
  of ← section_named site section
  Ok (Occupy of occupancy.Clear)
clear site other = Err Words

abbrev pub tick : Site → List (List ℕ) → Result Event Fault
tick site (node ∷ []) = do
  of ← node_named site node
  Ok (Tick of)
tick site other = Err Words

abbrev pub time : Site → List (List ℕ) → Result Event Fault
time site (d ∷ clocks) = do
  formed ← are_formed clocks
  named ← name_nodes site clocks
  elapsed ← decimal d
  steps ← steps_set site clocks (replicate (length (node_names site)) elapsed)
  Ok (Time elapsed steps)
time site [] = Err Words

abbrev pub deliver : Site → List (List ℕ) → Result Event Fault
deliver site (node ∷ bytes ∷ []) = do
  of ← both (node_named site node) (hexadecimal_or_none bytes)
  Ok (Deliver of.0 of.1)
deliver site other = Err Words

abbrev pub lose : List (List ℕ) → Result Event Fault
lose (bytes ∷ []) = do
  of ← hexadecimal bytes
  Ok (Lose of)
lose other = Err Words

abbrev pub reach : Site → List (List ℕ) → Result Event Fault
reach site (point ∷ side ∷ []) = do
  position ← position_named side
  of ← point_named site point
  Ok (Reach of position)
reach site other = Err Words

abbrev pub restart : Site → List (List ℕ) → Result Event Fault
restart site (node ∷ clock ∷ number ∷ []) = do
  of ← both (node_named site node) (both (number_up_to LATEST_CLOCK clock) (number_up_to 4294967295 number))
  Ok (Restart of.0 of.1.0 of.1.1)
restart site other = Err Words

-- the event that words say
abbrev pub event : Site → List (List ℕ) → Result Event Fault
event site (first ∷ rest) =
    if bytes_eq first (codes "set") then set site rest
    else if bytes_eq first (codes "cancel") then cancel site rest
    else if bytes_eq first (codes "resume") then resume rest
    else if bytes_eq first (codes "release") then requested (release site rest)
    else if bytes_eq first (codes "move") then requested (move_point site rest)
    else if bytes_eq first (codes "close") then requested (close_named site rest)
    else if bytes_eq first (codes "open") then requested (open_named site rest)
    else if bytes_eq first (codes "occupy") then occupy site rest
    else if bytes_eq first (codes "clear") then clear site rest
    else if bytes_eq first (codes "tick") then tick site rest
    else if bytes_eq first (codes "time") then time site rest
    else if bytes_eq first (codes "deliver") then deliver site rest
    else if bytes_eq first (codes "lose") then lose rest
    else if bytes_eq first (codes "reach") then reach site rest
    else if bytes_eq first (codes "restart") then restart site rest
    else Err Words
event site [] = Err Words
