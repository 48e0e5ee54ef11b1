-- Set routes stay apart.
use Rattle.std.proofs.Common.{inl, inr, ◌≡◌, ◌⊎◌, ℕ, zero, suc, ◌≤◌, Bool, true, false, List, [], ◌∷◌, drop, arith, refl, ap, sym, ◌∙◌, subst}
use Rattle.std.specs.Prelude.{◌↔◌, ◌≢◌, Some, map, slice_get}
use Rattle.std.specs.List.{Contains}
use Rattle.std.proofs.lemmas.Bool.{false≢true, true≢false}
use Rattle.ixl_state.specs.sci_telegram.declared.message.Side.{Side}
use Rattle.ixl_state.specs.sci_telegram.declared.message.Side.TheVariants as sides
use Rattle.ixl_state.specs.layout.declared.ids.RouteId.{RouteId}
use Rattle.ixl_state.specs.layout.Entries.{Site}
use Rattle.ixl_state.specs.ixl_table.Table.{SitedTable}
use Rattle.ixl_state.specs.ixl_spec.Due.{Admissible, Blocks, HoldsPoint, HoldsSection, IsRouteOf}
use Rattle.ixl_state.specs.ixl_spec.State.{IxlState, RouteState}
use Rattle.ixl_state.specs.ixl_spec.Step.{Accepted, Commands, Input, Reply, all_clocked}
use Rattle.ixl_state.specs.ixl_spec.Table.{Need, Row, Table}
use Rattle.ixl_state.specs.ixl_spec.View.{freed_sections, is_set}
use Rattle.ixl_state.specs.ixl_spec.declared.command.Command.TheVariants as commands
use Rattle.ixl_state.specs.ixl_spec.declared.phase.Phase.{Phase}
use Rattle.ixl_state.specs.ixl_spec.declared.phase.Phase.TheVariants as phase
use Rattle.ixl_state.specs.First.{Beginning, new_ixl, new_route_of}
use Rattle.ixl.specs.Interlocking.{HasStepped, InterlockingState}
use Rattle.ixl_laws.specs.Apart.{AllApart, StandApart}
use Rattle.ixl_laws.specs.Onward.{GoesOn, IsOnward}
use Rattle.ixl_laws.proofs.RoutesGoOn.{routes_were_there, steps_go_on}
use Rattle.ixl_laws.proofs.PickedByTest.{none_is, some_same}

-- ---- what a route holds, it held before in its setting

pub contains_there : {A : Type 0} (first one : A) (others : List A) → Contains others one → Contains (first ∷ others) one
contains_there first one others (k, lt, at) = (suc k, omega (arith, lt), at)

from_drop : {A : Type 0} (n : ℕ) (list : List A) (one : A) → Contains (drop n list) one → Contains list one
from_drop zero list one is = is
from_drop (suc n) [] one is = is
from_drop (suc n) (first ∷ others) one is = contains_there first one others (from_drop n others one is)

pub from_later : {A : Type 0} (less more : ℕ) (list : List A) (one : A) → less ≤ more → Contains (drop more list) one → Contains (drop less list) one
from_later zero more list one fewer is = from_drop more list one is
from_later (suc less) zero list one fewer is = absurd (omega (arith, fewer))
from_later (suc less) (suc more) [] one fewer is = is
from_later (suc less) (suc more) (first ∷ others) one fewer is = from_later less more others one (omega (arith, fewer)) is

pub set_back : (old new : Phase) → IsOnward old new → is_set new ≡ true → is_set old ≡ true
set_back phase.Waiting new onward set = refl
set_back phase.Proceeding new onward set = refl
set_back phase.Withdrawn new onward set = refl
set_back (phase.Ended clock done) new onward set = refl
set_back phase.Free phase.Free onward set = set
set_back phase.Free phase.Waiting onward set = absurd (omega (arith, onward.order))
set_back phase.Free phase.Proceeding onward set = absurd (omega (arith, onward.order))
set_back phase.Free phase.Withdrawn onward set = absurd (omega (arith, onward.order))
set_back phase.Free (phase.Ended clock done) onward set = absurd (omega (arith, onward.order))

freed_back : (old new : Phase) → IsOnward old new → is_set new ≡ true → freed_sections old ≤ freed_sections new
freed_back phase.Free new onward set = omega arith
freed_back phase.Waiting new onward set = omega arith
freed_back phase.Proceeding new onward set = omega arith
freed_back phase.Withdrawn new onward set = omega arith
freed_back (phase.Ended clock done) (phase.Ended later more) onward set = onward.freed.1
freed_back (phase.Ended clock done) phase.Free onward set = absurd (false≢true set)
freed_back (phase.Ended clock done) phase.Waiting onward set = absurd (omega (arith, onward.order))
freed_back (phase.Ended clock done) phase.Proceeding onward set = absurd (omega (arith, onward.order))
freed_back (phase.Ended clock done) phase.Withdrawn onward set = absurd (omega (arith, onward.order))

pub section_back : (row : Row) (old new : Phase) (section : ℕ) → IsOnward old new → HoldsSection row new section → HoldsSection row old section
section_back row old new section onward holds =
    (set_back old new onward holds.0, from_later (freed_sections old) (freed_sections new) row.sections section (freed_back old new onward holds.0) holds.1)

pub point_back : (row : Row) (old new : Phase) (point : ℕ) (side : Side) → IsOnward old new → HoldsPoint row new point side → HoldsPoint row old point side
point_back row old new point side onward holds =
    (set_back old new onward holds.0, (holds.1.0, holds.1.1, holds.1.2, holds.1.3, omega (arith, freed_back old new onward holds.0, holds.1.4)))

-- ---- two routes

flipped : (number other : ℕ) (row other_row : Row) (p q : Phase) → StandApart number other row other_row p q → StandApart other number other_row row q p
flipped number other row other_row p q apart = record {
  entry = λ same. apart.entry (sym same);
  extra = apart.listed;
  listed = apart.extra;
  sections = λ section one also. apart.sections section also one;
  points = λ point side another one also. sym (apart.points point another side also one);
}

still_apart : (number other : ℕ) (row other_row : Row) (p q old_p old_q : Phase) → IsOnward old_p p → IsOnward old_q q → StandApart number other row other_row old_p old_q → StandApart number other row other_row p q
still_apart number other row other_row p q old_p old_q onward also apart = record {
  entry = apart.entry;
  extra = apart.extra;
  listed = apart.listed;
  sections = λ section one another. apart.sections section (section_back row old_p p section onward one) (section_back other_row old_q q section also another);
  points = λ point side another one two. apart.points point side another (point_back row old_p p point side onward one) (point_back other_row old_q q point another also two);
}

is_right : Side → Bool
is_right sides.Right = true
is_right sides.Left = false

-- two sides that aren't different are the same
same_side : (side another : Side) → (side ≢ another → ⊥) → side ≡ another
unfolding is_right
same_side sides.Right sides.Right is = refl
same_side sides.Left sides.Left is = refl
same_side sides.Right sides.Left is = absurd (is (λ same. true≢false (ap is_right same)))
same_side sides.Left sides.Right is = absurd (is (λ same. false≢true (ap is_right same)))

-- a route that nothing blocks stands apart from each set one, however far it comes in the step
new_apart : (table : Table) (ixl : IxlState) (number other : ℕ) (row other_row : Row) (route : RouteState) (p q : Phase) →
    ((blocking : ℕ) → Blocks table ixl blocking number row → ⊥) → (other ≡ number → ⊥) → IsRouteOf table ixl other other_row route → is_set route.phase ≡ true →
    IsOnward route.phase q → StandApart number other row other_row p q
new_apart table ixl number other row other_row route p q unblocked differ is set onward = record {
  entry = λ same. blocked (inl (sym same));
  extra = λ lists. blocked (inr (inr (inl lists)));
  listed = λ lists. blocked (inr (inl lists));
  sections = λ section one two. blocked (inr (inr (inr (inl (section, from_drop (freed_sections p) row.sections section one.1, section_back other_row route.phase q section onward two)))));
  points = λ point side another one two. sym (same_side another side (λ apart. at_point point side another one two apart));
} where
  Why : Type 0
  Why = (other_row.entry ≡ row.entry) ⊎ (Contains other_row.extra number ⊎ (Contains row.extra other
      ⊎ (((section : ℕ) × Contains row.sections section × HoldsSection other_row route.phase section)
      ⊎ ((need : Need) × (side : Side) × Contains row.needs need × (side ≢ need.side) × HoldsPoint other_row route.phase need.point side))))

  blocked : Why → ⊥
  blocked why = unblocked other (record { row = other_row; route = route; is_route = is; other = differ; set = set; why = why })

  at_point : (point : ℕ) (side another : Side) → HoldsPoint row p point side → HoldsPoint other_row q point another → another ≢ side → ⊥
  at_point point side another one two apart =
      let need = one.1.0
      in blocked (inr (inr (inr (inr (
        need,
        another,
        one.1.1,
        (λ same. apart (same ∙ one.1.3)),
        subst (λ n. HoldsPoint other_row route.phase n another) (sym one.1.2) (point_back other_row route.phase q point another onward two),
      )))))

-- ---- a step

-- a request is accepted only where it is admissible
abbrev pub Accepts : Type 0
Accepts = (now : ℕ) (route : RouteId) (old new : InterlockingState) (answer : Reply) → HasStepped now (Commands (commands.Request route)) old new answer →
    answer ≡ Accepted ↔ Admissible now old.state.sited.table (all_clocked now old.state.ixl) route.0

is_request_for : Input → ℕ
is_request_for (Commands (commands.Request route)) = route.0
is_request_for _ = 0

unblocked_by : (now : ℕ) (input : Input) (old new : InterlockingState) (answer : Reply) (number : ℕ) (row : Row) → Accepts → HasStepped now input old new answer →
    input ≡ Commands (commands.Request (record { 0 = number })) → answer ≡ Accepted → slice_get old.state.sited.table.rows number ≡ Some row →
    (blocking : ℕ) → Blocks old.state.sited.table (all_clocked now old.state.ixl) blocking number row → ⊥
unblocked_by now input old new answer number row accepts step request accepted is blocking blocks =
    let may = (accepts now (record { 0 = number }) old new answer (subst (λ (i : Input). HasStepped now i old new answer) request step)).0 accepted
    in may.unblocked blocking (subst (λ (r : Row). Blocks old.state.sited.table (all_clocked now old.state.ixl) blocking number r) (some_same (sym is ∙ may.known.0)) blocks)

pub stay_apart : (now : ℕ) (input : Input) (old new : InterlockingState) (answer : Reply) → Accepts → HasStepped now input old new answer →
    AllApart old.state.sited.table old.state.ixl → AllApart new.state.sited.table new.state.ixl
unfolding all_clocked is_request_for
stay_apart now input old new answer accepts step apart number other row other_row route another differ is also set too =
    by_ways (steps_go_on now input old new answer number one.0 route step one.1 is.1) (steps_go_on now input old new answer other two.0 another step two.1 also.1)
  where
    one : (before : RouteState) × (slice_get old.state.ixl.routes number ≡ Some before)
    one = routes_were_there now input old new answer number route step is.1

    two : (before : RouteState) × (slice_get old.state.ixl.routes other ≡ Some before)
    two = routes_were_there now input old new answer other another step also.1

    row_is : slice_get old.state.sited.table.rows number ≡ Some row
    row_is = ap (λ (p : SitedTable). slice_get p.table.rows number) (sym step.sited) ∙ is.0

    other_row_is : slice_get old.state.sited.table.rows other ≡ Some other_row
    other_row_is = ap (λ (p : SitedTable). slice_get p.table.rows other) (sym step.sited) ∙ also.0

    by_ways : GoesOn input answer number one.0.phase route.phase → GoesOn input answer other two.0.phase another.phase → StandApart number other row other_row route.phase another.phase
    by_ways (inl onward) (inl on) = still_apart number other row other_row route.phase another.phase one.0.phase two.0.phase onward on
        (apart number other row other_row one.0 two.0 differ (row_is, one.1) (other_row_is, two.1) (set_back one.0.phase route.phase onward set) (set_back two.0.phase another.phase on too))
    by_ways (inr anew) (inl on) = new_apart old.state.sited.table (all_clocked now old.state.ixl) number other row other_row two.0 route.phase another.phase
        (unblocked_by now input old new answer number row accepts step anew.request anew.accepted row_is) (λ same. differ (sym same)) (other_row_is, two.1)
        (set_back two.0.phase another.phase on too) on
    by_ways (inl onward) (inr anew) = flipped other number other_row row another.phase route.phase
        (new_apart old.state.sited.table (all_clocked now old.state.ixl) other number other_row row one.0 another.phase route.phase
        (unblocked_by now input old new answer other other_row accepts step anew.request anew.accepted other_row_is) differ (row_is, one.1)
        (set_back one.0.phase route.phase onward set) onward)
    by_ways (inr anew) (inr too_anew) = absurd (differ (ap is_request_for (sym anew.request ∙ too_anew.request)))

-- ---- at first

free_at_first : (rows : List Row) (number : ℕ) (route : RouteState) → slice_get (map new_route_of rows) number ≡ Some route → is_set route.phase ≡ false
free_at_first [] number route is = absurd (none_is is)
free_at_first (row ∷ rows) zero route is = ap (λ (r : RouteState). is_set r.phase) (sym (some_same is))
free_at_first (row ∷ rows) (suc number) route is = free_at_first rows number route is

pub apart_at_first : (site : Site) (table : Table) (begins : Beginning) → AllApart table (new_ixl site table begins)
unfolding new_ixl
apart_at_first site table begins number other row other_row route another differ is also set too =
    absurd (false≢true (sym (free_at_first table.rows number route is.1) ∙ set))
