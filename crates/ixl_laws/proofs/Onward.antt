-- The order of the phases, and lists of routes that go on in it.
use Rattle.std.proofs.Common.{◌≡◌, ℕ, zero, suc, ◌≤◌, List, [], ◌∷◌, arith, refl, ap, sym, ◌∙◌, subst}
use Rattle.std.specs.Prelude.{Some, slice_get}
use Rattle.ixl_state.specs.ixl_spec.State.{RouteState, changed}
use Rattle.ixl_state.specs.ixl_spec.declared.phase.Phase.{Phase}
use Rattle.ixl_state.specs.ixl_spec.declared.phase.Phase.TheVariants as phase
use Rattle.ixl_laws.specs.Onward.{IsOnward, KeepsFreed, order_of}
use Rattle.ixl_laws.proofs.PickedByTest.{none_is, some_same}

pub onward_same : (p : Phase) → IsOnward p p
onward_same phase.Free = record { order = omega arith; freed = tt }
onward_same phase.Waiting = record { order = omega arith; freed = tt }
onward_same phase.Proceeding = record { order = omega arith; freed = tt }
onward_same phase.Withdrawn = record { order = omega arith; freed = tt }
onward_same (phase.Ended clock done) = record { order = omega arith; freed = (refl, omega arith) }

freed_then : (a b c : Phase) → order_of a ≤ order_of b → order_of b ≤ order_of c → KeepsFreed a b → KeepsFreed b c → KeepsFreed a c
freed_then phase.Free b c less more one next = tt
freed_then phase.Waiting b c less more one next = tt
freed_then phase.Proceeding b c less more one next = tt
freed_then phase.Withdrawn b c less more one next = tt
freed_then (phase.Ended clock done) b phase.Free less more one next = tt
freed_then (phase.Ended clock done) b phase.Waiting less more one next = tt
freed_then (phase.Ended clock done) b phase.Proceeding less more one next = tt
freed_then (phase.Ended clock done) b phase.Withdrawn less more one next = tt
freed_then (phase.Ended clock done) (phase.Ended mid some) (phase.Ended later all) less more one next = (next.0 ∙ one.0, omega (arith, one.1, next.1))
freed_then (phase.Ended clock done) phase.Free (phase.Ended later all) less more one next = absurd (omega (arith, more))
freed_then (phase.Ended clock done) phase.Waiting (phase.Ended later all) less more one next = absurd (omega (arith, less))
freed_then (phase.Ended clock done) phase.Proceeding (phase.Ended later all) less more one next = absurd (omega (arith, less))
freed_then (phase.Ended clock done) phase.Withdrawn (phase.Ended later all) less more one next = absurd (omega (arith, less))

pub onward_then : (a b c : Phase) → IsOnward a b → IsOnward b c → IsOnward a c
onward_then a b c one next = record { order = omega (arith, one.order, next.order); freed = freed_then a b c one.order next.order one.freed next.freed }

pub to_free : (p : Phase) → IsOnward p phase.Free
to_free phase.Free = record { order = omega arith; freed = tt }
to_free phase.Waiting = record { order = omega arith; freed = tt }
to_free phase.Proceeding = record { order = omega arith; freed = tt }
to_free phase.Withdrawn = record { order = omega arith; freed = tt }
to_free (phase.Ended clock done) = record { order = omega arith; freed = tt }

-- ---- lists of routes

unfoldable pub OnwardAll : List RouteState → List RouteState → Type 0
OnwardAll old new = (number : ℕ) (after : RouteState) → slice_get new number ≡ Some after →
    (before : RouteState) × (slice_get old number ≡ Some before) × IsOnward before.phase after.phase

pub all_same : (old new : List RouteState) → new ≡ old → OnwardAll old new
unfolding OnwardAll
all_same old new same number after is = (after, ap (λ routes. slice_get routes number) (sym same) ∙ is, onward_same after.phase)

pub all_then : (a b c : List RouteState) → OnwardAll a b → OnwardAll b c → OnwardAll a c
unfolding OnwardAll
all_then a b c one next number after is =
    let mid = next number after is
    in let before = one number mid.0 mid.1
    in (before.0, before.1, onward_then before.0.phase mid.0.phase after.phase before.2 mid.2)

pub one_changes : (change : RouteState → RouteState) (number : ℕ) (routes : List RouteState) →
    ((route : RouteState) → slice_get routes number ≡ Some route → IsOnward route.phase (change route).phase) → OnwardAll routes (changed change number routes)
unfolding OnwardAll
one_changes change number [] fits place after is = absurd (none_is is)
one_changes change zero (first ∷ others) fits zero after is = (first, refl, subst (λ (r : RouteState). IsOnward first.phase r.phase) (some_same is) (fits first refl))
one_changes change zero (first ∷ others) fits (suc place) after is = (after, is, onward_same after.phase)
one_changes change (suc number) (first ∷ others) fits zero after is = (first, refl, subst (λ (r : RouteState). IsOnward first.phase r.phase) (some_same is) (onward_same first.phase))
one_changes change (suc number) (first ∷ others) fits (suc place) after is = one_changes change number others fits place after is
