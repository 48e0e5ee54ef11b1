-- Members that are distinct are no more than there are places for them.
use Rattle.std.proofs.Common.{◌≡◌, ◌≢◌, ◌≤◌, ◌+◌, ◌∙◌, List, [], ◌∷◌, ◌++◌, length, ap, subst, ⊎_elim, arith, length-append}
use Rattle.std.specs.List.{Contains}
use Rattle.std.proofs.lemmas.List.Elements.{Contains-append_left, Contains-append_right, Contains-append_cases}
use Rattle.control_table.specs.layout.declared.ids.SignalId.{SignalId}
use Rattle.control_table.specs.layout.Entries.{Site}
use Rattle.control_table.specs.layout.Once.{Distinct}
use Rattle.route_derivation.specs.Ways.{Way, AreRouteWays, TooManyWays}
use Rattle.route_derivation.proofs.Members.{contains-none, contains-here, contains-there, contains-cases, distinct-first, distinct-rest}

split-at : {A : Type 0} (ys : List A) (x : A) → Contains ys x → (front : List A) × (back : List A) × (ys ≡ front ++ x ∷ back)
split-at [] x c = absurd (contains-none x c)
split-at (y ∷ ys) x c =
    ⊎_elim (λ e. ([], ys, ap (λ z. z ∷ ys) e)) (λ later. let on = split-at ys x later in (y ∷ on.0, on.1, ap (λ zs. y ∷ zs) on.2)) (contains-cases y x ys c)

other-part : {A : Type 0} (front back : List A) (x y : A) → Contains (front ++ x ∷ back) y → x ≢ y → Contains (front ++ back) y
other-part front back x y c differ =
    ⊎_elim (λ before. Contains-append_left front back y before)
    (λ behind. ⊎_elim (λ same. absurd (differ same)) (λ later. Contains-append_right front back y later) (contains-cases x y back behind))
    (Contains-append_cases front (x ∷ back) y c)

-- distinct members of a list are no more than it has
pub distinct-few : {A : Type 0} (xs ys : List A) → Distinct xs → ((x : A) → Contains xs x → Contains ys x) → length xs ≤ length ys
distinct-few [] ys d each = omega arith
distinct-few {A} (x ∷ xs) ys d each =
    let s = split-at ys x (each x (contains-here x xs)) in
    let C : List A → A → Type 0 = λ zs y. Contains zs y in
    let rest : (y : A) → Contains xs y → Contains (s.0 ++ s.1) y =
    λ y c. other-part s.0 s.1 x y (let D : List A → Type 0 = λ zs. Contains zs y in subst D s.2 (each y (contains-there x y xs c))) (distinct-first x y xs d c) in
    let fewer = distinct-few xs (s.0 ++ s.1) (distinct-rest x xs d) rest in
    let all : length ys ≡ length s.0 + length (x ∷ s.1) = ap length s.2 ∙ length-append s.0 (x ∷ s.1) in
    let both : length (s.0 ++ s.1) ≡ length s.0 + length s.1 = length-append s.0 s.1 in
    omega (arith, fewer, all, both)

-- where all ways are 64 at most, there aren't more
pub not-too_many : (l : Site) (entries : List SignalId) (ws : List Way) → AreRouteWays l entries ws → TooManyWays l entries → ⊥
not-too_many l entries ws h t =
    let few = distinct-few t.ways ws t.differ (λ w c. h.complete w (t.each w c)) in
    let most = h.few in
    let many = t.many in
    absurd (omega (arith, few, most, many))
