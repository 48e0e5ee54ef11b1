-- How a route follows on another behind the input of a step: it comes on, a set route stays cancelled or not, and the
-- clock of its release is kept.
use Rattle.std.proofs.Common.{◌≡◌, ◌⊎◌, inl, inr, ℕ, suc, Bool, true, List, length, arith, refl, ap, sym, ◌∙◌, subst}
use Rattle.std.specs.Prelude.{◌==◌, Option, Some, None, slice_get}
use Rattle.std.proofs.lemmas.Bool.{false≢true}
use Rattle.ixl_state.specs.ixl_spec.Rules.{authorised, come_to, freed, one_freed}
use Rattle.ixl_state.specs.ixl_spec.State.{IxlState, RouteState, changed}
use Rattle.ixl_state.specs.ixl_spec.Step.{route_looks}
use Rattle.ixl_state.specs.ixl_spec.Table.{Row, Table}
use Rattle.ixl_state.specs.ixl_spec.View.{is_set, place_in}
use Rattle.ixl_state.specs.ixl_spec.declared.phase.Phase.{Phase}
use Rattle.ixl_state.specs.ixl_spec.declared.phase.Phase.TheVariants as phase
use Rattle.ixl_laws.specs.Onward.{IsOnward}
use Rattle.ixl_laws.proofs.Apart.{set_back}
use Rattle.ixl_laws.proofs.Onward.{onward_same, onward_then, to_free}
use Rattle.ixl_laws.proofs.PickedByTest.{either}
use Rattle.ixl_laws.proofs.WholeFits.{changed_or_same}

pub record Follows (before after : RouteState) : Type 0 where
  pub onward : IsOnward before.phase after.phase
  pub cancelled : is_set after.phase ≡ true → after.cancelled ≡ before.cancelled
  pub released : after.released ≡ before.released

-- ---- one route

pub follows_same : (route : RouteState) → Follows route route
follows_same route = record { onward = onward_same route.phase; cancelled = λ set. refl; released = refl }

pub follows_then : (a b c : RouteState) → Follows a b → Follows b c → Follows a c
follows_then a b c one next = record {
  onward = onward_then a.phase b.phase c.phase one.onward next.onward;
  cancelled = λ set. next.cancelled set ∙ one.cancelled (set_back b.phase c.phase next.onward set);
  released = next.released ∙ one.released;
}

pub follows_to : (route : RouteState) (p : Phase) → IsOnward route.phase p → Follows route (come_to p route)
follows_to route p onward = record { onward = onward; cancelled = λ set. refl; released = refl }

pub follows_freed : (route : RouteState) → Follows route (freed route)
follows_freed route = record { onward = to_free route.phase; cancelled = λ set. absurd (false≢true set); released = refl }

pub follows_next : (row : Row) (clock done : ℕ) (route : RouteState) → route.phase ≡ phase.Ended clock done → Follows route (one_freed row (phase.Ended clock done) route)
follows_next row clock done route is =
    either (Follows route) (suc done == length row.sections) (freed route) (come_to (phase.Ended clock (suc done)) route) (follows_freed route)
    (follows_to route (phase.Ended clock (suc done)) (subst (λ (p : Phase). IsOnward p (phase.Ended clock (suc done))) (sym is) (record { order = omega arith; freed = (refl, omega arith) })))

pub follows_authorised : (table : Table) (ixl : IxlState) (row : Row) (route : RouteState) → IsOnward route.phase phase.Proceeding → Follows route (authorised table ixl row route)
follows_authorised table ixl row route onward = record { onward = onward; cancelled = λ set. refl; released = refl }

pub follows_look : (section : ℕ) (occupied : Bool) (row : Row) (route : RouteState) → Follows route (route_looks section occupied row route)
follows_look section occupied row route = by_place (place_in section row.sections) refl where
  by_place : (place : Option ℕ) → place_in section row.sections ≡ place → Follows route (route_looks section occupied row route)
  by_place None is = rw is (follows_same route)
  by_place (Some place) is = rw is (record { onward = onward_same route.phase; cancelled = λ set. refl; released = refl })

-- ---- lists of routes

abbrev pub FollowsAll : List RouteState → List RouteState → Type 0
FollowsAll old new = (number : ℕ) (after : RouteState) → slice_get new number ≡ Some after →
    (before : RouteState) × (slice_get old number ≡ Some before) × Follows before after

pub all_follow_same : (old : List RouteState) → FollowsAll old old
all_follow_same old number after is = (after, is, follows_same after)

pub all_follow_then : (a b c : List RouteState) → FollowsAll a b → FollowsAll b c → FollowsAll a c
all_follow_then a b c one next number after is =
    let mid = next number after is
    in let before = one number mid.0 mid.1
    in (before.0, before.1, follows_then before.0 mid.0 after before.2 mid.2)

pub all_follow_as : (a b c : List RouteState) → c ≡ b → FollowsAll a b → FollowsAll a c
all_follow_as a b c same all number after is = all number after (ap (λ routes. slice_get routes number) (sym same) ∙ is)

-- one route is changed to one that follows on it
pub all_follow_changed : (old : List RouteState) (change : RouteState → RouteState) (place : ℕ) (routes : List RouteState) →
    ((route : RouteState) → slice_get routes place ≡ Some route → Follows route (change route)) → FollowsAll old routes → FollowsAll old (changed change place routes)
all_follow_changed old change place routes fits all number after is = by_place (changed_or_same change place number routes after is) where
  by_place : (mid : RouteState) × (slice_get routes number ≡ Some mid) × ((after ≡ mid) ⊎ ((number ≡ place) × (after ≡ change mid))) →
      (before : RouteState) × (slice_get old number ≡ Some before) × Follows before after
  by_place (mid, there, inl same) = all number after (there ∙ ap Some (sym same))
  by_place (mid, there, inr (here, same)) =
      let before = all number mid there
      in (before.0, before.1, follows_then before.0 mid after before.2 (subst (Follows mid) (sym same) (fits mid (subst (λ n. slice_get routes n ≡ Some mid) here there))))
