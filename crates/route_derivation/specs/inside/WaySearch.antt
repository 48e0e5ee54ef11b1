-- How ways are searched, step by step.
use Rattle.std.specs.Prelude.{◌≡◌, ℕ, suc, zero, ◌<◌, ◌≤◌, ◌==◌, ◌-◌, ◌&&◌, ◌||◌, length, Bool, true, false, not, is_some, List, [], ◌∷◌, ◌++◌, Option, Some, None, Result, Ok, Err, slice_get, if◌then◌else◌}
use Rattle.std.specs.Option.{option_map, option_or}
use Rattle.std.specs.List.{list_any}
use Rattle.control_table.specs.sci_telegram.declared.message.Side.{Side}
use Rattle.control_table.specs.sci_telegram.declared.message.Side.TheVariants as side
use Rattle.control_table.specs.layout.declared.ids.SectionId.{SectionId}
use Rattle.control_table.specs.layout.declared.ids.PointId.{PointId}
use Rattle.control_table.specs.layout.declared.ids.SignalId.{SignalId}
use Rattle.control_table.specs.layout.declared.port.Port.{Port}
use Rattle.control_table.specs.layout.declared.port.Element.{Element}
use Rattle.control_table.specs.layout.declared.port.Element.TheVariants as element
use Rattle.layout_text.specs.declared.entries.End.{End}
use Rattle.layout_text.specs.declared.entries.End.TheVariants as end
use Rattle.control_table.specs.layout.declared.entries.Joint.{Joint}
use Rattle.control_table.specs.layout.declared.entries.Signal.{Signal}
use Rattle.control_table.specs.layout.declared.entries.Exit.TheVariants as exit
use Rattle.control_table.specs.layout.Entries.{Site}
use Rattle.control_table.specs.layout.Known.{same_port, same_element, end_number}
use Rattle.control_table.specs.Topology.{port_of, section_of}
use Rattle.control_table.specs.Path.{Passage, same_section}
use Rattle.control_table.specs.Sides.{leg, other}
use Rattle.route_derivation.specs.declared.fault.Underived.{Underived}
use Rattle.route_derivation.specs.declared.fault.Underived.TheVariants.{TooMany, NoName, OutOfMemory}
use Rattle.route_derivation.specs.declared.sides.Protection.{Protection}
use Rattle.route_derivation.specs.declared.sides.Protection.TheVariants as protection
use Rattle.route_derivation.specs.declared.search.Beyond.{Beyond}
use Rattle.route_derivation.specs.declared.search.Beyond.TheVariants as comes
use Rattle.route_derivation.specs.Ways.{Way}

-- ---- ports, elements and signals

-- whether two ports, two elements, two ends are the same
unfoldable pub is_port : Port → Port → Bool
is_port p q = same_port p q

unfoldable pub is_element : Element → Element → Bool
is_element a b = same_element a b

unfoldable pub is_end : End → End → Bool
is_end a b = end_number a == end_number b

-- the other port of a joint, if this port stands in it
abbrev pub other_port : Joint → Port → Option Port
other_port joint p = if is_port joint.first p then Some joint.second else if is_port joint.second p then Some joint.first else None

-- the port to which a port is joined by the first joint in which it stands
abbrev pub joined_to : List Joint → Port → Option Port
joined_to [] p = None
joined_to (joint ∷ joints) p = option_or (other_port joint p) (joined_to joints p)

-- there is a value, and it passes a test
abbrev pub some_and : {A : Type 0} → (A → Bool) → Option A → Bool
some_and test None = false
some_and test (Some x) = test x

-- the first signal at a port, of the signals from the n-th on
abbrev pub signal_from : ℕ → List Signal → Port → Option SignalId
signal_from n [] p = None
signal_from n (s ∷ signals) p = if is_port s.at p then Some (record { 0 = n }) else signal_from (suc n) signals p

-- ---- passages

-- the end by which an element is left that is entered by another end
abbrev pub first_end : Element → End → Option End
first_end (element.Track t) end.A = Some end.B
first_end (element.Track t) end.B = Some end.A
first_end (element.Point p) end.Tip = Some end.Left
first_end (element.Point p) end.Left = Some end.Tip
first_end (element.Point p) end.Right = Some end.Tip
first_end _ _ = None

-- the other such end
abbrev pub second_end : Element → End → Option End
second_end (element.Point p) end.Tip = Some end.Right
second_end _ _ = None

-- out by an end
abbrev pub out : Port → End → Passage
out entered e = record { entered = entered; left = record { element = entered.element; end = e } }

abbrev pub first_out : Port → Option Passage
first_out entered = option_map (out entered) (first_end entered.element entered.end)

abbrev pub second_out : Port → Option Passage
second_out entered = option_map (out entered) (second_end entered.element entered.end)

-- ---- sides

abbrev pub side_of : End → Option Side
side_of end.Left = Some side.Left
side_of end.Right = Some side.Right
side_of _ = None

-- the leg that a passage uses, if it leads over a point: the one by which it leaves, else the one by which it enters
abbrev pub leg_used : Passage → Option Side
leg_used g = if is_end g.left.end end.Tip then side_of g.entered.end else side_of g.left.end

abbrev pub point_of : Element → Option PointId
point_of (element.Point p) = Some p
point_of _ = None

abbrev pub used_of : Passage → Option PointId → Option (PointId × Side)
used_of g None = None
used_of g (Some p) = option_map (λ s. (p, s)) (leg_used g)

-- the point over which a passage leads, and the side of the leg that it uses
unfoldable pub used : Passage → Option (PointId × Side)
used g = used_of g (point_of g.left.element)

-- the leg of another point, at an end of an element
abbrev pub leg_at_port : PointId → End → Option PointId → Option (PointId × Side)
leg_at_port p e None = None
leg_at_port p e (Some q) = if q.0 == p.0 then None else option_map (λ s. (q, s)) (side_of e)

unfoldable pub leg_of_another : PointId → Port → Option (PointId × Side)
leg_of_another p from = leg_at_port p from.end (point_of from.element)

-- what protects a way at an unused leg that is joined to a port
abbrev pub guarded_by : Bool → Protection
guarded_by true = protection.Given
guarded_by false = protection.Open

abbrev pub protection_by : Bool → Option (PointId × Side) → Protection
protection_by signal None = guarded_by signal
protection_by signal (Some q) = protection.By q.0 (other q.1)

unfoldable pub protection_from : Site → PointId → Port → Protection
protection_from l p from = protection_by (is_some (signal_from 0 l.signals from)) (leg_of_another p from)

abbrev pub protection_behind : Site → PointId → Option Port → Protection
protection_behind l p None = protection.Given
protection_behind l p (Some from) = protection_from l p from

unfoldable pub protection_of : Site → PointId → Side → Protection
protection_of l p s = protection_behind l p (joined_to l.joints (leg p (other s)))

abbrev pub flank_need : Protection → Option (PointId × Side)
flank_need (protection.By q t) = Some (q, t)
flank_need _ = None

-- the point that guards the leg that a passage doesn't use, and its side
abbrev pub flank_at : Site → Option (PointId × Side) → Option (PointId × Side)
flank_at l None = None
flank_at l (Some n) = flank_need (protection_of l n.0 n.1)

abbrev pub is_open_leg : Protection → Bool
is_open_leg protection.Open = true
is_open_leg _ = false

abbrev pub is_open_at : Site → Option (PointId × Side) → Bool
is_open_at l n = some_and (λ n. is_open_leg (protection_of l n.0 n.1)) n

abbrev pub same_side : Side → Side → Bool
same_side side.Left side.Left = true
same_side side.Right side.Right = true
same_side _ _ = false

abbrev pub same_need : PointId × Side → PointId × Side → Bool
same_need m n = m.0.0 == n.0.0 && same_side m.1 n.1

-- a point stands in a list at a side
abbrev pub has_need : List (PointId × Side) → PointId × Side → Bool
has_need ns n = list_any (λ m. same_need m n) ns

-- the point of a need stands in a list at the other side
abbrev pub opposed : List (PointId × Side) → Option (PointId × Side) → Bool
opposed ns n = some_and (λ n. has_need ns (n.0, other n.1)) n

-- ---- a way that hasn't come to its end

-- whether it is judged by what it requires, its passages so far, their sections, and what they require
pub record Partial : Type 0 where
  pub judged : Bool
  pub passages : List Passage
  pub sections : List SectionId
  pub needs : List (PointId × Side)

unfoldable pub start : Bool → Partial
start judged = record { judged = judged; passages = []; sections = []; needs = [] }

abbrev pub holds_element : List Passage → Element → Bool
holds_element path e = list_any (λ g. is_element g.left.element e) path

abbrev pub holds_section : List SectionId → SectionId → Bool
holds_section ss s = list_any (λ t. same_section t s) ss

abbrev pub is_last : List SectionId → SectionId → Bool
is_last ss s = some_and (λ t. same_section s t) (slice_get ss (length ss - 1))

abbrev pub section_may_come : List SectionId → Option SectionId → Bool
section_may_come ss None = true
section_may_come ss (Some s) = is_last ss s || not (holds_section ss s)

abbrev pub with_section : List SectionId → Option SectionId → List SectionId
with_section ss None = ss
with_section ss (Some s) = if is_last ss s then ss else ss ++ s ∷ []

abbrev pub with_need : List (PointId × Side) → Option (PointId × Side) → List (PointId × Side)
with_need ns None = ns
with_need ns (Some n) = ns ++ n ∷ []

-- a passage leaves no leg open, and requires no point that is required at the other side
abbrev pub sides_go : Site → List (PointId × Side) → Passage → Bool
sides_go l ns g = not (is_open_at l (used g)) && not (opposed ns (used g)) && not (opposed ns (flank_at l (used g)))

-- the way may go on by a passage
unfoldable pub may_go : Site → Partial → Passage → Bool
may_go l p g =
    not (holds_element p.passages g.left.element)
    && section_may_come p.sections (section_of l g.left.element)
    && (not p.judged || sides_go l p.needs g)

-- the way, gone on by a passage
unfoldable pub longer : Site → Partial → Passage → Partial
longer l p g = record {
  judged = p.judged;
  passages = p.passages ++ g ∷ [];
  sections = with_section p.sections (section_of l g.left.element);
  needs = with_need (with_need p.needs (used g)) (flank_at l (used g));
}

-- ---- the search

abbrev pub beyond_element : Port → Element → Beyond
beyond_element entered (element.Border b) = comes.Exit (exit.Border b)
beyond_element entered _ = comes.On entered

abbrev pub beyond_joint : Option Port → Beyond
beyond_joint None = comes.Nowhere
beyond_joint (Some entered) = beyond_element entered entered.element

abbrev pub beyond_signal : SignalId → Option SignalId → Beyond → Beyond
beyond_signal s None other = other
beyond_signal s (Some t) other = if t.0 == s.0 then comes.Nowhere else comes.Exit (exit.Signal t)

-- what a way from a signal comes to after it left an element at a port
unfoldable pub comes_to : Site → SignalId → Port → Beyond
comes_to l s p = beyond_signal s (signal_from 0 l.signals p) (beyond_joint (joined_to l.joints p))

-- the ways by what is beyond the last element, given how they go on
abbrev pub ways_on : (Option Passage → List Way) → SignalId → List Passage → Beyond → List Way
ways_on on s path comes.Nowhere = []
ways_on on s path (comes.Exit x) = record { entry = s; exit = x; passages = path } ∷ []
ways_on on s path (comes.On entered) = on (first_out entered) ++ on (second_out entered)

-- the ways that go on by a passage, if it is one, and have at most n elements more
unfoldable pub ways_over : Site → SignalId → ℕ → Partial → Option Passage → List Way
ways_over l s n p None = []
ways_over l s zero p (Some g) = []
ways_over l s (suc n) p (Some g) =
    if may_go l p g then ways_on (λ h. ways_over l s n (longer l p g) h) s (longer l p g).passages (comes_to l s g.left) else []

-- the ways that begin over an element entered at a port, if it is one
abbrev pub ways_behind : Bool → Site → SignalId → Option Port → List Way
ways_behind judged l s None = []
ways_behind judged l s (Some entered) = ways_over l s 64 (start judged) (first_out entered) ++ ways_over l s 64 (start judged) (second_out entered)

abbrev pub ways_at : Bool → Site → SignalId → Option Port → List Way
ways_at judged l s None = []
ways_at judged l s (Some at) = ways_behind judged l s (joined_to l.joints at)

-- the ways that begin at a signal, those that are passable or all
unfoldable pub ways_from : Bool → Site → SignalId → List Way
ways_from judged l s = ways_at judged l s (port_of l.signals s)

abbrev pub is_asked : List SignalId → SignalId → Bool
is_asked entries s = list_any (λ e. e.0 == s.0) entries

-- the passable ways that begin at a signal, if it stands in a list
abbrev pub ways_asked : Site → List SignalId → SignalId → List Way
ways_asked l entries s = if is_asked entries s then ways_from true l s else []

-- the passable ways that begin at signals of a list, of those below the n-th of the layout
unfoldable pub ways_below : Site → List SignalId → ℕ → List Way
ways_below l entries zero = []
ways_below l entries (suc n) = ways_below l entries n ++ ways_asked l entries (record { 0 = n })

-- ---- what was found

-- ways were added to those found, of which there are then at most 64, or there would be more than 64
abbrev pub Adds : Result (Unit {0}) Underived → List Way → List Way → List Way → Type 0
Adds (Ok u) old new ways = (new ≡ old ++ ways) × (length old ≤ 64 → length new ≤ 64)
Adds (Err TooMany) old new ways = 64 < length (old ++ ways)
Adds (Err NoName) old new ways = Unit {0}
Adds (Err OutOfMemory) old new ways = Unit {0}

-- what there is where a search stopped
abbrev pub Stops : Underived → List Way → Type 0
Stops TooMany ways = 64 < length ways
Stops NoName ways = Unit {0}
Stops OutOfMemory ways = Unit {0}

-- these ways were found, at most 64, or there are more than 64
abbrev pub Finds : {X : Type 0} → (X → List Way) → Result X Underived → List Way → Type 0
Finds view (Ok x) ways = (view x ≡ ways) × (length ways ≤ 64)
Finds view (Err e) ways = Stops e ways
