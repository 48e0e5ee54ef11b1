-- Behind the input of a step a route uses no more than in front of it. So nothing that is closed comes to be used.
use Rattle.std.proofs.Common.{◌≡◌, ℕ, zero, suc, true, false, List, [], ◌∷◌, ◌++◌, map, arith, refl, sym, ◌∙◌, subst}
use Rattle.std.specs.List.{Contains}
use Rattle.std.proofs.lemmas.List.Elements.{Contains-append_left, Contains-append_right}
use Rattle.ixl_state.specs.ixl_spec.closings.declared.thing.Thing.{Thing}
use Rattle.ixl_state.specs.ixl_spec.closings.declared.thing.Thing.TheVariants.{Point, Route, Section, Signal}
use Rattle.ixl_state.specs.ixl_spec.closings.declared.closed.Closings.{Closings}
use Rattle.ixl_state.specs.ixl_spec.closings.Closed.{IsClosed}
use Rattle.ixl_state.specs.ixl_spec.Due.{HoldsPoint, Uses}
use Rattle.ixl_state.specs.ixl_spec.Operations.{need_thing, route_thing, section_thing, signal_thing, things_used}
use Rattle.ixl_state.specs.ixl_spec.State.{IxlState, RouteState}
use Rattle.ixl_state.specs.ixl_spec.Table.{Row, Table}
use Rattle.ixl_state.specs.ixl_spec.View.{freed_sections, is_set}
use Rattle.ixl_laws.specs.Operations.{NothingClosedIsUsed}
use Rattle.ixl_laws.proofs.Apart.{contains_there, from_later, point_back, section_back, set_back}
use Rattle.ixl_laws.proofs.Following.{Follows, FollowsAll}

-- a route that uses something is set
pub uses_set : (number : ℕ) (row : Row) (route : RouteState) (thing : Thing) → Uses number row route thing → is_set route.phase ≡ true
uses_set number row route (Section s) uses = uses.0
uses_set number row route (Point p side) uses = uses.0
uses_set number row route (Signal s) uses = uses.0
uses_set number row route (Route r) uses = uses.0

pub uses_less : (number : ℕ) (row : Row) (before after : RouteState) (thing : Thing) → Follows before after → Uses number row after thing → Uses number row before thing
uses_less number row before after (Section s) follows uses = section_back row before.phase after.phase s.0 follows.onward uses
uses_less number row before after (Point p side) follows uses = point_back row before.phase after.phase p.0 side follows.onward uses
uses_less number row before after (Signal s) follows uses = (set_back before.phase after.phase follows.onward uses.0, uses.1)
uses_less number row before after (Route r) follows uses = (set_back before.phase after.phase follows.onward uses.0, uses.1)

-- of a route that follows on another nothing closed is used, as of the other
pub follower_unused : (number : ℕ) (row : Row) (before after : RouteState) (thing : Thing) (closed : Closings) → Follows before after → after.cancelled ≡ false → Uses number row after thing →
    (before.cancelled ≡ false → Uses number row before thing → IsClosed closed thing → ⊥) → IsClosed closed thing → ⊥
follower_unused number row before after thing closed follows going uses unused is =
    unused (sym (follows.cancelled (uses_set number row after thing uses)) ∙ going) (uses_less number row before after thing follows uses) is

pub unused_still : (table : Table) (old new : IxlState) → new.closed ≡ old.closed → FollowsAll old.routes new.routes → NothingClosedIsUsed table old → NothingClosedIsUsed table new
unused_still table old new same follow unused number row route thing is going uses closed =
    let before = follow number route is.1
    in follower_unused number row before.0 route thing old.closed before.2 going uses (unused number row before.0 thing (is.0, before.1))
    (subst (λ (c : Closings). IsClosed c thing) same closed)

-- ---- what a set route uses is of what it would use

contains_here : {A : Type 0} (first : A) (others : List A) → Contains (first ∷ others) first
contains_here first others = (0, omega arith, refl)

contains_mapped : {A B : Type 0} (f : A → B) (list : List A) (one : A) → Contains list one → Contains (map f list) (f one)
contains_mapped f [] one (k, within, at) = absurd (omega (arith, within))
contains_mapped f (first ∷ others) one (zero, within, at) = subst (λ o. Contains (f first ∷ map f others) (f o)) at (contains_here (f first) (map f others))
contains_mapped f (first ∷ others) one (suc k, within, at) = contains_there (f first) (f one) (map f others) (contains_mapped f others one (k, omega (arith, within), at))

-- the sections and the points of a route
abbrev things_on_path : Row → List Thing
things_on_path row = map section_thing row.sections ++ map need_thing row.needs

path_is_used : (number : ℕ) (row : Row) (thing : Thing) → Contains (things_on_path row) thing → Contains (things_used number row) thing
path_is_used number row thing has =
    contains_there (route_thing number) thing (signal_thing row.entry ∷ things_on_path row) (contains_there (signal_thing row.entry) thing (things_on_path row) has)

entry_is_used : (number : ℕ) (row : Row) → Contains (things_used number row) (signal_thing row.entry)
entry_is_used number row =
    contains_there (route_thing number) (signal_thing row.entry) (signal_thing row.entry ∷ things_on_path row) (contains_here (signal_thing row.entry) (things_on_path row))

pub uses_of_them : (number : ℕ) (row : Row) (route : RouteState) (thing : Thing) → Uses number row route thing → Contains (things_used number row) thing
uses_of_them number row route (Section s) uses =
    path_is_used number row (Section s) (Contains-append_left (map section_thing row.sections) (map need_thing row.needs) (Section s)
    (contains_mapped section_thing row.sections s.0 (from_later 0 (freed_sections route.phase) row.sections s.0 (omega arith) uses.1)))
uses_of_them number row route (Point p side) uses =
    path_is_used number row (Point p side) (Contains-append_right (map section_thing row.sections) (map need_thing row.needs) (Point p side) (by_need uses))
  where
    by_need : HoldsPoint row route.phase p.0 side → Contains (map need_thing row.needs) (Point p side)
    by_need (set, (need, has, point, same, less)) =
        subst (Contains (map need_thing row.needs)) (λ i. Point (record { 0 = point i }) (same i)) (contains_mapped need_thing row.needs need has)
uses_of_them number row route (Signal s) uses =
    subst (λ n. Contains (things_used number row) (Signal (record { 0 = n }))) uses.1 (entry_is_used number row)
uses_of_them number row route (Route r) uses =
    subst (λ n. Contains (things_used number row) (Route (record { 0 = n }))) uses.1 (contains_here (route_thing number) (signal_thing row.entry ∷ things_on_path row))
