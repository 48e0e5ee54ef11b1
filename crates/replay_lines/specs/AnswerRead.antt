-- The answer that the words of a line say of an event; fault 5 where they say none that the event can have. Numbers are
-- decimal, and may have leading zeros. Which refusal can come for which command isn't looked at.
use Rattle.std.specs.Prelude.{ℕ, ◌==◌, nat_lt, if◌then◌else◌, Bool, true, false, Option, Some, None, List, [], ◌∷◌, length, codes, Result, Ok, Err}
use Rattle.std.specs.Option.{ok_or}
use Rattle.std.specs.Str.{bytes_eq}
use Rattle.replay_words.specs.declared.fault.Fault.{Fault}
use Rattle.replay_words.specs.declared.fault.Fault.TheVariants as fault
use Rattle.replay_words.specs.Fault.{◌>>=◌}
use Rattle.replay_words.specs.Read.{decimal}
use Rattle.ixl_spec.specs.layout.Entries.{Site}
use Rattle.ixl_spec.specs.layout.declared.ids.RouteId.{RouteId}
use Rattle.ixl_spec.specs.closings.declared.thing.Named.{Named}
use Rattle.ixl_spec.specs.closings.declared.thing.Named.TheVariants.{One}
use Rattle.ixl_spec.specs.closings.declared.thing.Thing.TheVariants as thing
use Rattle.ixl_spec.specs.closings.Words.{named, side_said}
use Rattle.ixl_spec.specs.declared.command.Refusal.{Refusal}
use Rattle.ixl_spec.specs.declared.command.Refusal.TheVariants as refusal
use Rattle.simulator_event.specs.Refused.{numbered}
use Rattle.simulator_event.specs.declared.event.Event.{Event}
use Rattle.simulator_event.specs.declared.event.Event.TheVariants.{Request}
use Rattle.simulator_event.specs.refused.Refused.{Refused as Why}
use Rattle.simulator_event.specs.declared.reply.Answer.{Answer}
use Rattle.simulator_event.specs.declared.reply.Answer.TheVariants.{Done, Accepted, Refused}
use Rattle.replay_lines.specs.Names.{point_named, route_named, section_named}

-- the refusals that are told without a name
abbrev pub unnamed_refusal : ℕ → Result Refusal Fault
unnamed_refusal number =
    if number == 1 then Ok refusal.UnknownRoute
    else if number == 2 then Ok refusal.Holding
    else if number == 3 then Ok refusal.NotResumed
    else if number == 4 then Ok refusal.AlreadySet
    else if number == 8 then Ok refusal.SignalUnavailable
    else if number == 9 then Ok refusal.NotSet
    else if number == 10 then Ok refusal.DetectionDown
    else if number == 11 then Ok refusal.NoSuchThing
    else if number == 12 then Ok refusal.NotEnded
    else Err fault.Answer

-- the route of a name, if the table has it
abbrev pub route_in_table : Site → List ℕ → Result RouteId Fault
route_in_table site name =
    if nat_lt (route_named site name).0 (length site.routes) then Ok (route_named site name) else Err fault.Answer

abbrev pub conflict : Site → List ℕ → Result Refusal Fault
conflict site name = do
  route ← route_in_table site name
  Ok (refusal.Conflict route)

abbrev pub not_clear : Site → List ℕ → Result Refusal Fault
not_clear site name = do
  section ← section_named site name
  Ok (refusal.NotClear section)

abbrev pub point_unavailable : Site → List ℕ → Result Refusal Fault
point_unavailable site name = do
  point ← point_named site name
  Ok (refusal.PointUnavailable point)

abbrev pub held : Site → List ℕ → Result Refusal Fault
held site name = do
  route ← route_in_table site name
  Ok (refusal.Held route)

-- a closed section, signal or route
abbrev pub whole_closed : Option Named → Result Refusal Fault
whole_closed (Some (One closed)) = Ok (refusal.Closed closed)
whole_closed _ = Err fault.Answer

abbrev pub closed_whole : Site → List ℕ → Result Refusal Fault
closed_whole site name = whole_closed (named site name None)

-- a closed point, which is told with its side
abbrev pub closed_point : Site → List ℕ → List ℕ → Result Refusal Fault
closed_point site name word = do
  side ← ok_or (side_said word) fault.Answer
  point ← point_named site name
  Ok (refusal.Closed (thing.Point point side))

abbrev pub sided_refusal : Site → ℕ → List ℕ → List ℕ → Result Refusal Fault
sided_refusal site number name side = if number == 13 then closed_point site name side else Err fault.Answer

-- those that are told with a name alone
abbrev pub named_refusal : Site → ℕ → List ℕ → Result Refusal Fault
named_refusal site number name =
    if number == 5 then conflict site name
    else if number == 6 then not_clear site name
    else if number == 7 then point_unavailable site name
    else if number == 13 then closed_whole site name
    else if number == 14 then held site name
    else Err fault.Answer

-- ---- answers, by the words after the first

abbrev pub ok : List (List ℕ) → Result (Result Answer Why) Fault
ok [] = Ok (Ok Done)
ok other = Err fault.Answer

abbrev pub accepted : List (List ℕ) → Result (Result Answer Why) Fault
accepted [] = Ok (Ok Accepted)
accepted other = Err fault.Answer

-- the refusal of a number, by the words after the number
abbrev pub refusal_of : Site → ℕ → List (List ℕ) → Result Refusal Fault
refusal_of site number [] = unnamed_refusal number
refusal_of site number (name ∷ []) = named_refusal site number name
refusal_of site number (name ∷ side ∷ []) = sided_refusal site number name side
refusal_of site number other = Err fault.Answer

abbrev pub refused : Site → List (List ℕ) → Result (Result Answer Why) Fault
refused site (number ∷ more) = do
  n ← decimal number
  refusal ← refusal_of site n more
  Ok (Ok (Refused refusal))
refused site [] = Err fault.Answer

abbrev pub why_told : Option Why → Result (Result Answer Why) Fault
why_told (Some why) = Ok (Err why)
why_told None = Err fault.Answer

abbrev pub no : List (List ℕ) → Result (Result Answer Why) Fault
no (number ∷ []) = do
  n ← decimal number
  why_told (numbered n)
no other = Err fault.Answer

-- the answer that words say
abbrev pub said : Site → List (List ℕ) → Result (Result Answer Why) Fault
said site (first ∷ rest) =
    if bytes_eq first (codes "ok") then ok rest
    else if bytes_eq first (codes "accepted") then accepted rest
    else if bytes_eq first (codes "refused") then refused site rest
    else if bytes_eq first (codes "no") then no rest
    else Err fault.Answer
said site [] = Err fault.Answer

-- ---- answers of an event

-- `ok` answers no command, and an interlocking's answers answer commands alone
abbrev pub can_answer : Event → Result Answer Why → Bool
can_answer event (Err why) = true
can_answer (Request command) (Ok Done) = false
can_answer (Request command) (Ok answer) = true
can_answer event (Ok Done) = true
can_answer event (Ok answer) = false

-- what was said, where the event can have it
abbrev pub fitting : Event → Result (Result Answer Why) Fault → Result (Result Answer Why) Fault
fitting event (Ok answer) = if can_answer event answer then Ok answer else Err fault.Answer
fitting event (Err other) = Err fault.Answer

abbrev pub answer : Site → Event → List (List ℕ) → Result (Result Answer Why) Fault
answer site event words = fitting event (said site words)
