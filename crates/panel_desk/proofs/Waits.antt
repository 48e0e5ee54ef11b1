-- Who waits.
use Rattle.std.proofs.Common.{◌≡◌, ◌∙◌, ◌⊎◌, ◌+◌, inl, inr, ℕ, zero, suc, Bool, true, false, not, if◌then◌else◌, List, [], ◌∷◌, ◌++◌, refl, sym, ap, subst, arith}
use Rattle.std.specs.Prelude.{◌||◌, ◌==◌, None, filter}
use Rattle.std.specs.List.{Contains}
use Rattle.std.proofs.lemmas.Bool.{eq-eqb, eqb-true, false≢true, true≢false}
use Rattle.std.proofs.lemmas.List.Elements.{Contains-append_right}
use Rattle.node_lines.specs.layout.declared.ids.RouteId.{RouteId}
use Rattle.panel_desk.specs.StandingLaws.{EachOnce}
use Rattle.panel_desk.specs.StandingOrders.{is_of, is_waiting, waits_with}
use Rattle.panel_desk.specs.declared.standing_orders.Waiting.{Waiting}

-- ---- lists

pub contains-none : {A : Type 0} (x : A) → Contains [] x → ⊥
contains-none x h = absurd (omega (arith, h.1))

pub contains-here : {A : Type 0} (x : A) (xs : List A) → Contains (x ∷ xs) x
contains-here x xs = (0, omega arith, refl)

pub contains-there : {A : Type 0} (x y : A) (xs : List A) → Contains xs y → Contains (x ∷ xs) y
contains-there x y xs (k, lt, at) = (suc k, omega (arith, lt), at)

pub contains-cases : {A : Type 0} (x y : A) (xs : List A) → Contains (x ∷ xs) y → (x ≡ y) ⊎ Contains xs y
contains-cases x y xs (zero, lt, at) = inl at
contains-cases x y xs (suc k, lt, at) = inr (k, omega (arith, lt), at)

-- ---- tests

pub neither : (a b : Bool) → a || b ≡ false → (a ≡ false) × (b ≡ false)
neither true b h = absurd (true≢false h)
neither false b h = (refl, h)

pub both_fail : (a b : Bool) → a ≡ false → b ≡ false → a || b ≡ false
both_fail a b one other = ap (λ (t : Bool). t || b) one ∙ other

pub same_route : (one other : RouteId) → one.0 ≡ other.0 → one ≡ other
same_route one other h =
    let made : ℕ → RouteId = λ n. record { 0 = n } in
    ap made h

pub is_the_route : (one other : RouteId) → one.0 == other.0 ≡ true → one ≡ other
is_the_route one other h = same_route one other (eqb-true one.0 other.0 h)

-- ---- a route that waits

pub waits_there : (route : RouteId) (one : Waiting) (waiting : List Waiting) → Contains waiting one → one.route ≡ route → is_waiting route waiting ≡ true
waits_there route one [] has is = absurd (contains-none one has)
waits_there route one (first ∷ others) has is =
    at_first (is_of route first) refl (contains-cases first one others has) (λ (later : Contains others one). waits_there route one others later is)
  where
    at_first : (test : Bool) → is_of route first ≡ test → (first ≡ one) ⊎ Contains others one → (Contains others one → is_waiting route others ≡ true) → (test || is_waiting route others) ≡ true
    at_first true same place next = refl
    at_first false same (inr later) next = next later
    at_first false same (inl here) next =
        absurd (true≢false (sym (eq-eqb first.route.0 route.0 (ap (λ (w : Waiting). w.route.0) here ∙ ap (λ (r : RouteId). r.0) is)) ∙ same))

pub one_waits : (route : RouteId) (waiting : List Waiting) → is_waiting route waiting ≡ true → (one : Waiting) × Contains waiting one × (one.route ≡ route)
one_waits route [] h = absurd (false≢true h)
one_waits route (first ∷ others) h = at_first (is_of route first) refl h (λ (waits : is_waiting route others ≡ true). one_waits route others waits)
  where
    at_first : (test : Bool) → is_of route first ≡ test → (test || is_waiting route others) ≡ true → (is_waiting route others ≡ true → (one : Waiting) × Contains others one × (one.route ≡ route))
        → (one : Waiting) × Contains (first ∷ others) one × (one.route ≡ route)
    at_first true same waits next = (first, contains-here first others, is_the_route first.route route same)
    at_first false same waits next =
        let later = next waits in
        (later.0, contains-there first later.0 others later.1, later.2)

-- one more waits behind the others
pub not_behind : (route : RouteId) (waiting : List Waiting) (last : Waiting) → is_waiting route waiting ≡ false → is_of route last ≡ false → is_waiting route (waiting ++ last ∷ []) ≡ false
not_behind route [] last none other = both_fail (is_of route last) false other refl
not_behind route (first ∷ others) last none other =
    let parts = neither (is_of route first) (is_waiting route others) none in
    both_fail (is_of route first) (is_waiting route (others ++ last ∷ [])) parts.0 (not_behind route others last parts.1 other)

pub waits_alone : (other route : RouteId) (waiting : List Waiting) → other.0 == route.0 ≡ false → is_waiting route waiting ≡ false → is_waiting route (waits_with other waiting) ≡ false
waits_alone other route waiting apart none = by_test (is_waiting other waiting)
  where
    by_test : (test : Bool) → is_waiting route (if test then waiting else waiting ++ record { route = other; tried = None } ∷ []) ≡ false
    by_test true = none
    by_test false = not_behind route waiting (record { route = other; tried = None }) none apart

-- who is left out doesn't come
pub kept_alone : (route : RouteId) (test : Waiting → Bool) (waiting : List Waiting) → is_waiting route waiting ≡ false → is_waiting route (filter test waiting) ≡ false
kept_alone route test [] none = refl
kept_alone route test (first ∷ others) none =
    let parts = neither (is_of route first) (is_waiting route others) none in
    by_test (test first) parts.0 (kept_alone route test others parts.1)
  where
    by_test : (kept : Bool) → is_of route first ≡ false → is_waiting route (filter test others) ≡ false → is_waiting route (if kept then first ∷ filter test others else filter test others) ≡ false
    by_test true here later = both_fail (is_of route first) (is_waiting route (filter test others)) here later
    by_test false here later = later

pub dropped_alone : (route : RouteId) (waiting : List Waiting) → is_waiting route (filter (λ one. not (is_of route one)) waiting) ≡ false
dropped_alone route [] = refl
dropped_alone route (first ∷ others) = by_test (is_of route first) refl (dropped_alone route others)
  where
    by_test : (test : Bool) → is_of route first ≡ test → is_waiting route (filter (λ one. not (is_of route one)) others) ≡ false
        → is_waiting route (if not test then first ∷ filter (λ one. not (is_of route one)) others else filter (λ one. not (is_of route one)) others) ≡ false
    by_test true same later = later
    by_test false same later = both_fail (is_of route first) (is_waiting route (filter (λ one. not (is_of route one)) others)) same later

-- ---- each once

pub once_kept : (test : Waiting → Bool) (waiting : List Waiting) → EachOnce waiting → EachOnce (filter test waiting)
once_kept test [] once = tt
once_kept test (first ∷ others) once = by_test (test first) (kept_alone first.route test others once.0) (once_kept test others once.1)
  where
    by_test : (kept : Bool) → is_waiting first.route (filter test others) ≡ false → EachOnce (filter test others) → EachOnce (if kept then first ∷ filter test others else filter test others)
    by_test true alone later = (alone, later)
    by_test false alone later = later

pub once_behind : (waiting : List Waiting) (last : Waiting) → is_waiting last.route waiting ≡ false → EachOnce waiting → EachOnce (waiting ++ last ∷ [])
once_behind [] last none once = (refl, tt)
once_behind (first ∷ others) last none once =
    let parts = neither (is_of last.route first) (is_waiting last.route others) none in
    (not_behind first.route others last once.0 (turned (last.route.0 == first.route.0) refl parts.0), once_behind others last parts.1 once.1)
  where
    turned : (test : Bool) → last.route.0 == first.route.0 ≡ test → first.route.0 == last.route.0 ≡ false → test ≡ false
    turned false is other = refl
    turned true is other = absurd (true≢false (sym (eq-eqb first.route.0 last.route.0 (sym (eqb-true last.route.0 first.route.0 is))) ∙ other))

pub once_with : (route : RouteId) (waiting : List Waiting) → EachOnce waiting → EachOnce (waits_with route waiting)
once_with route waiting once = by_test (is_waiting route waiting) refl
  where
    by_test : (test : Bool) → is_waiting route waiting ≡ test → EachOnce (if test then waiting else waiting ++ record { route = route; tried = None } ∷ [])
    by_test true is = once
    by_test false is = once_behind waiting (record { route = route; tried = None }) is once

-- where each waits once, a route has one place
pub one_place : (before others : List Waiting) (one other : Waiting) (more rest : List Waiting) → EachOnce (before ++ one ∷ more) → before ++ one ∷ more ≡ others ++ other ∷ rest → one.route ≡ other.route → before ≡ others
one_place [] [] one other more rest once same is = refl
one_place [] (first ∷ others) one other more rest once same is =
    let behind : more ≡ others ++ other ∷ rest = cc in
    let has : Contains more other = subst (λ (l : List Waiting). Contains l other) (sym behind) (Contains-append_right others (other ∷ rest) other (contains-here other rest)) in
    absurd (true≢false (sym (waits_there one.route other more has (sym is)) ∙ once.0))
one_place (first ∷ before) [] one other more rest once same is =
    let head : first ≡ other = cc in
    let has : Contains (before ++ one ∷ more) one = Contains-append_right before (one ∷ more) one (contains-here one more) in
    absurd (true≢false (sym (waits_there first.route one (before ++ one ∷ more) has (is ∙ sym (ap (λ (w : Waiting). w.route) head))) ∙ once.0))
one_place (first ∷ before) (second ∷ others) one other more rest once same is =
    let head : first ≡ second = cc in
    let tail : before ++ one ∷ more ≡ others ++ other ∷ rest = cc in
    let later : before ≡ others = one_place before others one other more rest once.1 tail is in
    cc
