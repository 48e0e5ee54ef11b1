-- The routes that a table lacks are those that follow and whose way it hasn't.
use Rattle.std.proofs.Common.{◌≡◌, ◌≤◌, ◌∙◌, ◌↔◌, ◌==◌, ◌&&◌, Bool, true, false, List, [], ◌∷◌, ◌++◌, length, get_or, refl, sym, ap, subst, ⊎_elim, arith}
use Rattle.std.specs.Prelude.{if◌then◌else◌}
use Rattle.std.specs.Bool.{Decides}
use Rattle.std.specs.List.{All, AllPairs, Contains}
use Rattle.std.proofs.lemmas.Bool.{true≢false}
use Rattle.std.proofs.lemmas.Bool.Decides.{Decides-and, Decides-like}
use Rattle.std.proofs.lemmas.List.{get_or_default}
use Rattle.std.proofs.lemmas.List.Elements.{All-contains}
use Rattle.control_table.specs.layout.declared.ids.SignalId.{SignalId}
use Rattle.control_table.specs.layout.declared.port.Port.{Port}
use Rattle.control_table.specs.layout.Entries.{RouteEntry, Site}
use Rattle.route_derivation.specs.Derived.{IsBefore, IsDerived, SameRoute, SameWay}
use Rattle.route_derivation.specs.Lacking.{AreLacking, HasWay}
use Rattle.route_derivation.specs.inside.WaySearch.{is_port}
use Rattle.route_derivation.specs.inside.WaysKept.{has_way, lacking, same_path, same_way, with_lacking}
use Rattle.route_derivation.proofs.Lists.{pairs-first, pairs-rest, pairs-cons}
use Rattle.route_derivation.proofs.Members.{any-decides, contains-here, contains-none, contains-there, contains-cases}
use Rattle.route_derivation.proofs.Same.{never, port-decides, signal-decides}

first-same : (p q : Port) (ps qs : List Port) → p ∷ ps ≡ q ∷ qs → p ≡ q
first-same p q ps qs e = cc

rest-same : (p q : Port) (ps qs : List Port) → p ∷ ps ≡ q ∷ qs → ps ≡ qs
rest-same p q ps qs e = cc

path-decides : (one other : List Port) → Decides (same_path one other) (one ≡ other)
unfolding same_path
path-decides [] [] = (λ h. refl, λ h. refl)
path-decides [] (q ∷ qs) = never (λ e. let n = ap length e in absurd (omega (arith, n)))
path-decides (p ∷ ps) [] = never (λ e. let n = ap length e in absurd (omega (arith, n)))
path-decides (p ∷ ps) (q ∷ qs) =
    let both : Type 0 = (p ≡ q) × (ps ≡ qs) in
    let up : both → p ∷ ps ≡ q ∷ qs = λ h i. h.0 i ∷ h.1 i in
    let down : p ∷ ps ≡ q ∷ qs → both = λ e. (first-same p q ps qs e, rest-same p q ps qs e) in
    Decides-like (is_port p q && same_path ps qs) up down (Decides-and (is_port p q) (same_path ps qs) (port-decides p q) (path-decides ps qs))

way-decides : (q r : RouteEntry) → Decides (same_way q r) (SameWay q r)
way-decides q r = Decides-and (q.entry.0 == r.entry.0) (same_path q.path r.path) (signal-decides q.entry r.entry) (path-decides q.path r.path)

pub has_way-decides : (l : Site) (r : RouteEntry) → Decides (has_way l r) (HasWay l r)
has_way-decides l r =
    let W : RouteEntry → Type 0 = λ q. SameWay q r in
    any-decides (λ q. same_way q r) W (λ q. way-decides q r) l.routes

-- what is answered says whether the table has the way
pub way_told : (l : Site) (r : RouteEntry) (b : Bool) → b ≡ has_way l r → (b ≡ true) ↔ HasWay l r
way_told l r b is = (λ yes. (has_way-decides l r).0 (sym is ∙ yes), λ there. is ∙ (has_way-decides l r).1 there)

module _ (l : Site) where
  -- ---- members

  lacking-from : (rs : List RouteEntry) (r : RouteEntry) → Contains (lacking l rs) r → Contains rs r × (has_way l r ≡ false)
  unfolding lacking
  lacking-from [] r c = absurd (contains-none r c)
  lacking-from (q ∷ rs) r c = at (lacking-from rs r) (has_way l q) refl c where
    at : (Contains (lacking l rs) r → Contains rs r × (has_way l r ≡ false)) → (b : Bool) → has_way l q ≡ b → Contains (if b then lacking l rs else q ∷ lacking l rs) r → Contains (q ∷ rs) r × (has_way l r ≡ false)
    at before true e c = let on = before c in (contains-there q r rs on.0, on.1)
    at before false e c =
        let H : RouteEntry → Type 0 = λ x. has_way l x ≡ false in
        let C : RouteEntry → Type 0 = λ x. Contains (q ∷ rs) x in
        ⊎_elim (λ same. (subst C same (contains-here q rs), subst H same e)) (λ later. let on = before later in (contains-there q r rs on.0, on.1)) (contains-cases q r (lacking l rs) c)

  lacking-to : (rs : List RouteEntry) (r : RouteEntry) → Contains rs r → has_way l r ≡ false → Contains (lacking l rs) r
  unfolding lacking
  lacking-to [] r c none = absurd (contains-none r c)
  lacking-to (q ∷ rs) r c none = at (λ later. lacking-to rs r later none) (has_way l q) refl where
    at : (Contains rs r → Contains (lacking l rs) r) → (b : Bool) → has_way l q ≡ b → Contains (if b then lacking l rs else q ∷ lacking l rs) r
    at before true e =
        let H : RouteEntry → Type 0 = λ x. has_way l x ≡ false in
        ⊎_elim (λ same. absurd (true≢false (sym e ∙ ap (has_way l) same ∙ none))) (λ later. before later) (contains-cases q r rs c)
    at before false e =
        let C : RouteEntry → Type 0 = λ x. Contains (q ∷ lacking l rs) x in
        ⊎_elim (λ same. subst C same (contains-here q (lacking l rs))) (λ later. contains-there q r (lacking l rs) (before later)) (contains-cases q r rs c)

  lacking-ordered : (rs : List RouteEntry) → AllPairs IsBefore rs → AllPairs IsBefore (lacking l rs)
  unfolding lacking
  lacking-ordered [] h = h
  lacking-ordered (q ∷ rs) h = at (has_way l q) (lacking-ordered rs (pairs-rest IsBefore q rs h)) where
    at : (b : Bool) → AllPairs IsBefore (lacking l rs) → AllPairs IsBefore (if b then lacking l rs else q ∷ lacking l rs)
    at true rest = rest
    at false rest = pairs-cons IsBefore q (lacking l rs) (λ y c. pairs-first IsBefore q y rs h (lacking-from rs y c).0) rest

  lacking-few : (rs : List RouteEntry) → length (lacking l rs) ≤ length rs
  unfolding lacking
  lacking-few [] = omega arith
  lacking-few (q ∷ rs) = at (has_way l q) (lacking-few rs) where
    at : (b : Bool) → length (lacking l rs) ≤ length rs → length (if b then lacking l rs else q ∷ lacking l rs) ≤ length (q ∷ rs)
    at true few = omega (arith, few)
    at false few = omega (arith, few)

  pub lacking-all : (P : RouteEntry → Type 0) (rs new : List RouteEntry) → new ≡ lacking l rs → All P rs → All P new
  lacking-all P rs new is h k d lt =
      let x = get_or new k d in
      let C : List RouteEntry → Type 0 = λ ys. Contains ys x in
      All-contains P rs x h (lacking-from rs x (subst C is (k, lt, get_or_default new k x d lt))).0

  -- ---- the loop

  cons-with : (q : RouteEntry) (rs : List RouteEntry) (r : RouteEntry) → q ∷ with_lacking l rs r ≡ with_lacking l (q ∷ rs) r
  cons-with q rs r = elim (has_way l r) as (λ b. q ∷ (if b then rs else rs ++ r ∷ []) ≡ (if b then q ∷ rs else q ∷ rs ++ r ∷ [])) [ true ↦ refl | false ↦ refl ]

  lacking-more : (rs : List RouteEntry) (r : RouteEntry) → lacking l (rs ++ r ∷ []) ≡ with_lacking l (lacking l rs) r
  unfolding lacking
  lacking-more [] r = elim (has_way l r) as (λ b. (if b then [] else r ∷ []) ≡ (if b then [] else r ∷ [])) [ true ↦ refl | false ↦ refl ]
  lacking-more (q ∷ rs) r = at (has_way l q) (lacking-more rs r) where
    at : (b : Bool) → lacking l (rs ++ r ∷ []) ≡ with_lacking l (lacking l rs) r
        → (if b then lacking l (rs ++ r ∷ []) else q ∷ lacking l (rs ++ r ∷ [])) ≡ with_lacking l (if b then lacking l rs else q ∷ lacking l rs) r
    at true e = e
    at false e = ap (λ ys. q ∷ ys) e ∙ cons-with q (lacking l rs) r

  pub kept_none : [] ≡ lacking l []
  unfolding lacking
  kept_none = refl

  pub kept_more : (yielded : List RouteEntry) (r : RouteEntry) (old new : List RouteEntry) → old ≡ lacking l yielded → new ≡ with_lacking l old r → new ≡ lacking l (yielded ++ r ∷ [])
  kept_more yielded r old new before more = more ∙ ap (λ xs. with_lacking l xs r) before ∙ sym (lacking-more yielded r)

  -- ---- together

  same-has : (r q : RouteEntry) → SameRoute r q → HasWay l q → HasWay l r
  same-has r q same w = (w.0, w.1, (w.2.0 ∙ sym same.entry, w.2.1 ∙ sym same.path))

  not-had : (r : RouteEntry) → (HasWay l r → ⊥) → has_way l r ≡ false
  not-had r none = at (has_way l r) refl where
    at : (b : Bool) → has_way l r ≡ b → b ≡ false
    at true e = absurd (none ((has_way-decides l r).0 e))
    at false e = refl

  pub are-lacking : (entries : List SignalId) (rs new : List RouteEntry) → IsDerived l entries rs → new ≡ lacking l rs → AreLacking l entries new
  are-lacking entries rs new h is =
      let A : List RouteEntry → Type 0 = λ ys. AreLacking l entries ys in
      let few = lacking-few rs in
      let most = h.few in
      let them : AreLacking l entries (lacking l rs) = record {
        each = λ r c. h.sound r (lacking-from rs r c).0;
        new = λ r c there. true≢false (sym ((has_way-decides l r).1 there) ∙ (lacking-from rs r c).1);
        all = λ r asked none. let on = h.complete r asked in (on.0, lacking-to rs on.0 on.1 (not-had on.0 (λ there. none (same-has r on.0 on.2 there))), on.2);
        ordered = lacking-ordered rs h.ordered;
        few = omega (arith, few, most);
      } in
      subst A (sym is) them
