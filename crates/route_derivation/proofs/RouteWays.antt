-- What is found from all signals of a list.
use Rattle.std.proofs.Common.{◌≡◌, ◌≢◌, ◌<◌, ◌≤◌, ◌+◌, ◌-◌, ◌∙◌, Bool, true, false, ◌==◌, ℕ, zero, suc, List, [], ◌∷◌, ◌++◌, length, Some, Ok, Err, refl, sym, ap, subst, inl, inr, ⊎_elim, arith, length-append}
use Rattle.std.specs.Prelude.{Result, IfOk, slice_get, if◌then◌else◌}
use Rattle.std.specs.Bool.{Decides}
use Rattle.std.specs.List.{AllPairs, Contains}
use Rattle.std.proofs.lemmas.Bool.{false≢true}
use Rattle.std.proofs.lemmas.Bool.Decides.{Decides-like, Decides-eqb}
use Rattle.std.proofs.lemmas.List.Elements.{Contains-append_left, Contains-append_right, Contains-append_cases}
use Rattle.control_table.specs.sci_telegram.declared.message.Side.TheVariants as side
use Rattle.control_table.specs.layout.declared.ids.SignalId.{SignalId}
use Rattle.control_table.specs.layout.declared.port.Port.{Port}
use Rattle.control_table.specs.layout.declared.entries.Signal.{Signal}
use Rattle.layout_text.specs.declared.entries.End.TheVariants as end
use Rattle.control_table.specs.layout.Entries.{Site}
use Rattle.control_table.specs.layout.Once.{Once, Distinct}
use Rattle.control_table.specs.layout.Station.{IsStation}
use Rattle.control_table.specs.Sides.{leg}
use Rattle.route_derivation.specs.declared.fault.Underived.{Underived}
use Rattle.route_derivation.specs.declared.fault.Underived.TheVariants.{TooMany, NoName, OutOfMemory}
use Rattle.route_derivation.specs.Ways.{Way, IsRouteWay, PartsLeft, ports, ComesBefore, AreRouteWays, TooManyWays}
use Rattle.route_derivation.specs.inside.WaySearch.{is_asked, ways_from, ways_asked, ways_below, Adds, Stops, Finds}
use Rattle.route_derivation.proofs.Members.{contains-none, any-decides, none-some}
use Rattle.route_derivation.proofs.Same.{signal-decides}
use Rattle.route_derivation.proofs.SideLaws.{option_map-some}
use Rattle.route_derivation.proofs.Lists.{contains-last, pairs-nil, pairs-append}
use Rattle.route_derivation.proofs.Sound.{found-fine}
use Rattle.route_derivation.proofs.Complete.{passable-found}
use Rattle.route_derivation.proofs.Order.{from-ordered}

asked-decides : (entries : List SignalId) (s : SignalId) → Decides (is_asked entries s) (Contains entries s)
asked-decides entries s =
    let P : SignalId → Type 0 = λ e. e ≡ s in
    let C : SignalId → Type 0 = λ e. Contains entries e in
    Decides-like (is_asked entries s) (λ h. subst C h.2 h.1) (λ c. (s, c, refl)) (any-decides (λ e. e.0 == s.0) P (λ e. signal-decides e s) entries)

abbrev signal : ℕ → SignalId
signal n = record { 0 = n }

-- what is found comes from a signal of the list, and the other way round
asked-from : (l : Site) (entries : List SignalId) (s : SignalId) (w : Way) → Contains (ways_asked l entries s) w → Contains entries s × Contains (ways_from true l s) w
asked-from l entries s w c = at (is_asked entries s) refl c where
  at : (b : Bool) → is_asked entries s ≡ b → Contains (if b then ways_from true l s else []) w → Contains entries s × Contains (ways_from true l s) w
  at true e c = ((asked-decides entries s).0 e, c)
  at false e c = absurd (contains-none w c)

asked-to : (l : Site) (entries : List SignalId) (s : SignalId) (w : Way) → Contains entries s → Contains (ways_from true l s) w → Contains (ways_asked l entries s) w
asked-to l entries s w asked c =
    let C : Bool → Type 0 = λ b. Contains (if b then ways_from true l s else []) w in
    subst C (sym ((asked-decides entries s).1 asked)) c

abbrev Below : Site → List SignalId → ℕ → Way → Type 0
Below l entries n w = (s : SignalId) × (s.0 < n) × Contains entries s × Contains (ways_from true l s) w

below-from : (l : Site) (entries : List SignalId) (n : ℕ) (w : Way) → Contains (ways_below l entries n) w → Below l entries n w
unfolding ways_below
below-from l entries zero w c = absurd (contains-none w c)
below-from l entries (suc n) w c =
    ⊎_elim (λ before. let on = below-from l entries n w before in (on.0, (let lt = on.1 in omega (arith, lt)), on.2, on.3))
    (λ here. let on = asked-from l entries (signal n) w here in (signal n, omega arith, on.0, on.1))
    (Contains-append_cases (ways_below l entries n) (ways_asked l entries (signal n)) w c)

below-to : (l : Site) (entries : List SignalId) (n : ℕ) (s : SignalId) (w : Way) → s.0 < n → Contains entries s → Contains (ways_from true l s) w → Contains (ways_below l entries n) w
unfolding ways_below
below-to l entries zero s w lt asked c = absurd (omega (arith, lt))
below-to l entries (suc n) s w lt asked c = at (below-to l entries n s w) (s.0 == n) refl where
  at : (s.0 < n → Contains entries s → Contains (ways_from true l s) w → Contains (ways_below l entries n) w) → (b : Bool) → (s.0 == n) ≡ b → Contains (ways_below l entries n ++ ways_asked l entries (signal n)) w
  at before true e =
      let same : s.0 ≡ n = (Decides-eqb s.0 n).0 e in
      let is : s ≡ signal n = λ i. record { 0 = same i } in
      let C : SignalId → Type 0 = λ t. Contains (ways_asked l entries t) w in
      Contains-append_right (ways_below l entries n) (ways_asked l entries (signal n)) w (subst C is (asked-to l entries s w asked c))
  at before false e =
      let differ : s.0 ≢ n = λ h. false≢true (sym e ∙ (Decides-eqb s.0 n).1 h) in
      Contains-append_left (ways_below l entries n) (ways_asked l entries (signal n)) w (before (omega (arith, lt, differ)) asked c)

-- ---- in order

asked-ordered : (l : Site) (entries : List SignalId) (s : SignalId) → AllPairs ComesBefore (ways_asked l entries s)
asked-ordered l entries s =
    elim (is_asked entries s) as (λ b. AllPairs ComesBefore (if b then ways_from true l s else [])) [ true ↦ from-ordered l s true | false ↦ pairs-nil ComesBefore ]

below-ordered : (l : Site) → Once l → (entries : List SignalId) (n : ℕ) → AllPairs ComesBefore (ways_below l entries n)
unfolding ways_below
below-ordered l once entries zero = pairs-nil ComesBefore
below-ordered l once entries (suc n) =
    pairs-append ComesBefore (ways_below l entries n) (ways_asked l entries (signal n)) (below-ordered l once entries n) (asked-ordered l entries (signal n))
    (λ w v c d.
    let one = below-from l entries n w c in
    let other = asked-from l entries (signal n) v d in
    let first : w.entry.0 ≡ one.0.0 = ap (λ (t : SignalId). t.0) (found-fine l once one.0 w one.3).0 in
    let second : v.entry.0 ≡ n = ap (λ (t : SignalId). t.0) (found-fine l once (signal n) v other.1).0 in
    let lt = one.1 in inl (omega (arith, first, second, lt)))

-- ---- the way that comes before another is another

parts-here : (shared : List Port) (p q : Port) (left right : List Port) → shared ++ p ∷ left ≡ shared ++ q ∷ right → p ≡ q
parts-here [] p q left right e = cc
parts-here (x ∷ shared) p q left right e = let rest : shared ++ p ∷ left ≡ shared ++ q ∷ right = cc in parts-here shared p q left right rest

pub parts-differ : (first second : List Port) → PartsLeft first second → first ≡ second → ⊥
parts-differ first second part e =
    let same : leg part.point side.Left ≡ leg part.point side.Right = parts-here part.shared (leg part.point side.Left) (leg part.point side.Right) part.left part.right (sym part.to_left ∙ e ∙ part.to_right) in
    let ends : end.Left ≡ end.Right = ap (λ (p : Port). p.end) same in absurd (cc)

pub before-differs : (w v : Way) → ComesBefore w v → w ≡ v → ⊥
before-differs w v (inl lt) e = let same = ap (λ (x : Way). x.entry.0) e in absurd (omega (arith, lt, same))
before-differs w v (inr h) e = parts-differ (ports w) (ports v) h.1 (ap ports e)

pub ordered-distinct : (ws : List Way) → AllPairs ComesBefore ws → Distinct ws
ordered-distinct ws h i j d lt within e = before-differs _ _ (h i j d lt within) e

-- ---- together

pub get-below : {A : Type 0} (xs : List A) (i : ℕ) (x : A) → slice_get xs i ≡ Some x → i < length xs
get-below [] i x e = absurd (none-some x e)
get-below (y ∷ xs) zero x e = omega arith
get-below (y ∷ xs) (suc i) x e = let lt = get-below xs i x e in omega (arith, lt)

all-sound : (l : Site) → Once l → (entries : List SignalId) (n : ℕ) (w : Way) → Contains (ways_below l entries n) w → IsRouteWay l entries w
all-sound l once entries n w c =
    let on = below-from l entries n w c in
    let fine = found-fine l once on.0 w on.3 in
    let C : SignalId → Type 0 = λ s. Contains entries s in
    record { asked = subst C (sym fine.0) on.2; passable = fine.1; short = fine.2 }

all-complete : (l : Site) → Once l → IsStation l → (entries : List SignalId) (w : Way) → IsRouteWay l entries w → Contains (ways_below l entries (length l.signals)) w
all-complete l once station entries w h =
    let at = option_map-some (λ (s : Signal). s.at) (slice_get l.signals w.entry.0) h.passable.way.begins.0 h.passable.way.begins.1 in
    below-to l entries (length l.signals) w.entry w (get-below l.signals w.entry.0 at.0 at.1) h.asked (passable-found l once station w h.passable h.short)

pub are-route_ways : (l : Site) → Once l → IsStation l → (entries : List SignalId) → length (ways_below l entries (length l.signals)) ≤ 64 → AreRouteWays l entries (ways_below l entries (length l.signals))
are-route_ways l once station entries few = record {
  sound = λ w c. all-sound l once entries (length l.signals) w c;
  complete = λ w h. all-complete l once station entries w h;
  ordered = below-ordered l once entries (length l.signals);
  few = few;
}

pub too_many-ways : (l : Site) → Once l → (entries : List SignalId) (n : ℕ) → 64 < length (ways_below l entries n) → TooManyWays l entries
too_many-ways l once entries n many = record {
  ways = ways_below l entries n;
  many = many;
  differ = ordered-distinct (ways_below l entries n) (below-ordered l once entries n);
  each = λ w c. all-sound l once entries n w c;
}

-- ---- the loop over all signals

-- more signals, more ways
pub below-longer : (l : Site) (entries : List SignalId) (n k : ℕ) → length (ways_below l entries n) ≤ length (ways_below l entries (k + n))
unfolding ways_below
below-longer l entries n zero = let e : zero + n ≡ n = omega arith in let L : ℕ → Type 0 = λ m. length (ways_below l entries n) ≤ length (ways_below l entries m) in subst L (sym e) (omega arith)
below-longer l entries n (suc k) =
    let e : suc k + n ≡ suc (k + n) = omega arith in
    let L : ℕ → Type 0 = λ m. length (ways_below l entries n) ≤ length (ways_below l entries m) in
    let more : length (ways_below l entries (suc (k + n))) ≡ length (ways_below l entries (k + n)) + length (ways_asked l entries (signal (k + n))) = length-append (ways_below l entries (k + n)) (ways_asked l entries (signal (k + n))) in
    let before = below-longer l entries n k in
    subst L (sym e) (omega (arith, more, before))

pub search_goes_on : (l : Site) (entries : List SignalId) (n : ℕ) (old new : List Way) → old ≡ ways_below l entries n → length old ≤ 64 → Adds (Ok tt) old new (ways_asked l entries (signal n))
    → (new ≡ ways_below l entries (n + 1)) × (length new ≤ 64)
unfolding ways_below
search_goes_on l entries n old new is few h =
    let e : suc n ≡ n + 1 = omega arith in
    (h.0 ∙ ap (λ ws. ws ++ ways_asked l entries (signal n)) is ∙ ap (ways_below l entries) e, h.1 few)

pub search_stops : (l : Site) (entries : List SignalId) (n count : ℕ) (old new : List Way) (e : Underived) → n < count → old ≡ ways_below l entries n
    → Adds (Err e) old new (ways_asked l entries (signal n)) → Stops e (ways_below l entries count)
unfolding ways_below
search_stops l entries n count old new TooMany lt is h =
    let k = count - suc n in
    let e : k + suc n ≡ count = omega arith in
    let L : List Way → Type 0 = λ ws. 64 < length ws in
    let here : 64 < length (ways_below l entries (suc n)) = subst L (ap (λ ws. ws ++ ways_asked l entries (signal n)) is) h in
    let more = below-longer l entries (suc n) k in
    let all : 64 < length (ways_below l entries (k + suc n)) = omega (arith, here, more) in
    subst L (ap (ways_below l entries) e) all
search_stops l entries n count old new NoName lt is h = tt
search_stops l entries n count old new OutOfMemory lt is h = tt

pub finds_route_ways : {X : Type 0} (view : X → List Way) (l : Site) (entries : List SignalId) (r : Result X Underived) → Once l → IsStation l → Finds view r (ways_below l entries (length l.signals)) → IfOk r (λ v. AreRouteWays l entries (view v))
finds_route_ways view l entries (Ok x) once station h =
    let A : List Way → Type 0 = λ ws. AreRouteWays l entries ws in
    subst A (sym h.0) (are-route_ways l once station entries h.1)
finds_route_ways view l entries (Err e) once station h = tt

pub finds_too_many : {X : Type 0} (view : X → List Way) (l : Site) (entries : List SignalId) (r : Result X Underived) → Once l → Finds view r (ways_below l entries (length l.signals)) → r ≡ Err TooMany → TooManyWays l entries
finds_too_many view l entries (Ok x) once h e = absurd (cc)
finds_too_many view l entries (Err TooMany) once h e = too_many-ways l once entries (length l.signals) h
finds_too_many view l entries (Err NoName) once h e = absurd (cc)
finds_too_many view l entries (Err OutOfMemory) once h e = absurd (cc)

-- ---- the list of all signals

pub signals-more : (n : ℕ) (xs new : List SignalId) → ((s : SignalId) → s.0 < n → Contains xs s) → new ≡ xs ++ signal n ∷ [] → (s : SignalId) → s.0 < n + 1 → Contains new s
signals-more n xs new before is s lt = at (s.0 == n) refl where
  at : (b : Bool) → (s.0 == n) ≡ b → Contains new s
  at true e =
      let same : s.0 ≡ n = (Decides-eqb s.0 n).0 e in
      let this : signal n ≡ s = λ i. record { 0 = sym same i } in
      let C : List SignalId → Type 0 = λ ys. Contains ys s in
      let D : SignalId → Type 0 = λ t. Contains (xs ++ signal n ∷ []) t in
      subst C (sym is) (subst D this (contains-last xs (signal n)))
  at false e =
      let differ : s.0 ≢ n = λ h. false≢true (sym e ∙ (Decides-eqb s.0 n).1 h) in
      let C : List SignalId → Type 0 = λ ys. Contains ys s in
      subst C (sym is) (Contains-append_left xs (signal n ∷ []) s (before s (omega (arith, lt, differ))))
