-- Where nothing is newly closed, either way, the same things are closed.
use Rattle.std.proofs.Common.{◌≡◌, ◌∙◌, ◌⊎◌, ◌↔◌, zero, suc, ◌==◌, ◌&&◌, not, Bool, true, false, IsTrue, cond, List, [], ◌∷◌, length, filter, Contains, refl, sym, ap, inl, inr, ⊎_elim, arith}
use Rattle.std.proofs.lemmas.Bool.{false≢true}
use Rattle.std.proofs.lemmas.Bool.Decides.{nat_tests}
use Rattle.simulator_spec.specs.layout.Entries.{Site}
use Rattle.simulator_spec.specs.ixl_spec.closings.declared.closed.Closings.{Closings}
use Rattle.simulator_spec.specs.ixl_spec.closings.declared.thing.Thing.{Thing}
use Rattle.simulator_spec.specs.ixl_spec.closings.Closed.{IsClosed, closed_things, is_closed}
use Rattle.simulator_spec.specs.ixl_spec.closings.Things.{HasThing}
use Rattle.node_kinds.specs.Kept.{AreSame, is_none, is_same_closings, newly}

pub contains-there : {A : Type 0} (x y : A) (xs : List A) → Contains xs y → Contains (x ∷ xs) y
contains-there x y xs (k, lt, at) = (suc k, omega (arith, lt), at)

pub contains-cases : {A : Type 0} (x y : A) (xs : List A) → Contains (x ∷ xs) y → (x ≡ y) ⊎ Contains xs y
contains-cases x y xs (zero, lt, at) = inl at
contains-cases x y xs (suc k, lt, at) = inr (k, omega (arith, lt), at)

-- ---- where nothing is newly closed

pub two_tests : (a b : Bool) → (a && b) ≡ true → (a ≡ true) × (b ≡ true)
two_tests true b e = (refl, e)
two_tests false b e = absurd (false≢true e)

module _ (before : Closings) where
  abbrev was_open : Thing → Bool
  was_open t = not (is_closed before t)

  -- where none of these was open, each was closed
  closed_before : (things : List Thing) → is_none (filter was_open things) ≡ true → (t : Thing) → Contains things t → is_closed before t ≡ true
  closed_before [] none t has = absurd (let lt = has.1 in omega (arith, lt))
  closed_before (x ∷ xs) none t has =
      let parts = by (is_closed before x) none in
      ⊎_elim (λ here. sym (ap (is_closed before) here) ∙ parts.0) (λ later. closed_before xs parts.1 t later) (contains-cases x t xs has)
    where
      by : (v : Bool) → is_none (cond (not v) (x ∷ filter was_open xs) (filter was_open xs)) ≡ true → (v ≡ true) × (is_none (filter was_open xs) ≡ true)
      by true e = (refl, e)
      by false e = absurd (false≢true e)

pub same_truth : (b d : Bool) → IsTrue b ↔ IsTrue d → b ≡ d
same_truth true true both = refl
same_truth true false both = sym (both.0 refl)
same_truth false true both = both.1 refl
same_truth false false both = refl

-- a list has none where its length is 0
pub none_counted : (things : List Thing) → (length things == 0) ≡ is_none things
none_counted [] = refl
none_counted (thing ∷ things) = grind (arith, nat_tests)

pub same_closings : (l : Site) → ((c : Closings) (t : Thing) → Contains (closed_things l c) t ↔ (HasThing l t × IsClosed c t)) → (one other : Closings) → is_same_closings l one other ≡ true → AreSame l one other
same_closings l listed one other same t has =
    let parts = two_tests (is_none (newly l one other)) (is_none (newly l other one)) same in
    same_truth (is_closed one t) (is_closed other t)
    (λ is. closed_before other (closed_things l one) parts.1 t ((listed one t).1 (has, is)), λ is. closed_before one (closed_things l other) parts.0 t ((listed other t).1 (has, is)))
