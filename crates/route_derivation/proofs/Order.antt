-- Ways are found in order: by their signals, and to the left before to the right where they part.
use Rattle.std.proofs.Common.{◌≡◌, ◌∙◌, Bool, true, false, ℕ, zero, suc, List, [], ◌∷◌, ◌++◌, map, Option, Some, None, refl, sym, ap, subst, inr, ⊎_elim}
use Rattle.std.specs.List.{AllPairs, Contains}
use Rattle.std.proofs.lemmas.List.{map-append}
use Rattle.std.proofs.lemmas.List.Elements.{Contains-append_cases}
use Rattle.control_table.specs.sci_telegram.declared.message.Side.TheVariants as side
use Rattle.control_table.specs.layout.declared.ids.PointId.{PointId}
use Rattle.control_table.specs.layout.declared.ids.SignalId.{SignalId}
use Rattle.control_table.specs.layout.declared.port.Port.{Port}
use Rattle.control_table.specs.layout.declared.port.Element.TheVariants as of
use Rattle.layout_text.specs.declared.entries.End.TheVariants as end
use Rattle.control_table.specs.layout.Entries.{Site}
use Rattle.control_table.specs.Topology.{port_of}
use Rattle.control_table.specs.Path.{Passage}
use Rattle.control_table.specs.Sides.{leg}
use Rattle.route_derivation.specs.declared.search.Beyond.{Beyond}
use Rattle.route_derivation.specs.declared.search.Beyond.TheVariants as comes
use Rattle.route_derivation.specs.Ways.{Way, ports, ComesBefore}
use Rattle.route_derivation.specs.inside.WaySearch.{Partial, start, joined_to, first_end, second_end, out, first_out, second_out, may_go, longer, comes_to, ways_on, ways_over, ways_behind, ways_at, ways_from}
use Rattle.route_derivation.proofs.Members.{contains-none, contains-cases, some-injective}
use Rattle.route_derivation.proofs.SideLaws.{option_map-some}
use Rattle.route_derivation.proofs.Lists.{append-one, pairs-nil, pairs-cons, pairs-append}
use Rattle.route_derivation.proofs.Adding.{over_none, over_full, over_stopped, over_on}
use Rattle.route_derivation.proofs.Grow.{longer-passages}
use Rattle.route_derivation.proofs.Reach.{second-leaves}

-- ---- the two ways over a point that is entered at its tip

abbrev Legs : Passage → Passage → Type 0
Legs g h = (p : PointId) × (g.left ≡ leg p side.Left) × (h.left ≡ leg p side.Right)

pub legs-part : (q : Port) (g h : Passage) → first_out q ≡ Some g → second_out q ≡ Some h → Legs g h
legs-part q g h first second =
    let a = option_map-some (out q) (first_end q.element q.end) g first in
    let b = option_map-some (out q) (second_end q.element q.end) h second in
    let s = second-leaves q.element q.end b.0 b.1 in
    let at_tip : first_end (of.Point s.0) end.Tip ≡ Some a.0 = sym (ap (λ e. first_end e q.end) s.1 ∙ ap (λ x. first_end (of.Point s.0) x) s.2) ∙ a.1 in
    let left : end.Left ≡ a.0 = some-injective end.Left a.0 at_tip in
    let G : Passage → Type 0 = λ x. x.left ≡ leg s.0 side.Left in
    let H : Passage → Type 0 = λ x. x.left ≡ leg s.0 side.Right in
    let one : (out q a.0).left ≡ leg s.0 side.Left = λ i. record { element = s.1 i; end = sym left i } in
    let other : (out q b.0).left ≡ leg s.0 side.Right = λ i. record { element = s.1 i; end = s.3 i } in
    (s.0, subst G a.2 one, subst H b.2 other)

module _ (l : Site) (s : SignalId) where
  -- ---- how a way begins that is found

  abbrev Starts : Partial → Passage → Way → Type 0
  Starts p g w = (w.entry ≡ s) × ((rest : List Passage) × (w.passages ≡ p.passages ++ g ∷ rest))

  abbrev StartsAt : ℕ → Type 0
  StartsAt n = (p : Partial) (g : Passage) (w : Way) → Contains (ways_over l s n p (Some g)) w → Starts p g w

  module _ (n : ℕ) (before : StartsAt n) (p : Partial) (g : Passage) (w : Way) where
    starts-next : (next : Option Passage) → Contains (ways_over l s n (longer l p g) next) w → Starts p g w
    starts-next None c = let C : List Way → Type 0 = λ ws. Contains ws w in absurd (contains-none w (subst C (over_none l s n (longer l p g)) c))
    starts-next (Some h) c =
        let on = before (longer l p g) h w c in
        (on.0, (h ∷ on.1.0, on.1.1 ∙ ap (λ ps. ps ++ h ∷ on.1.0) (longer-passages l p g) ∙ append-one p.passages g (h ∷ on.1.0)))

    starts-by : (b : Beyond) → Contains (ways_on (λ next. ways_over l s n (longer l p g) next) s (longer l p g).passages b) w → Starts p g w
    starts-by comes.Nowhere c = absurd (contains-none w c)
    starts-by (comes.Exit x) c =
        let S : Way → Type 0 = λ v. Starts p g v in
        ⊎_elim (λ e. subst S e (refl, ([], longer-passages l p g))) (λ none. absurd (contains-none w none)) (contains-cases (record { entry = s; exit = x; passages = (longer l p g).passages }) w [] c)
    starts-by (comes.On entered) c =
        ⊎_elim (starts-next (first_out entered)) (starts-next (second_out entered)) (Contains-append_cases (ways_over l s n (longer l p g) (first_out entered)) (ways_over l s n (longer l p g) (second_out entered)) w c)

  starts-step : (n : ℕ) → StartsAt n → StartsAt (suc n)
  starts-step n before p g w c = at (may_go l p g) refl where
    at : (b : Bool) → may_go l p g ≡ b → Starts p g w
    at false stop = let C : List Way → Type 0 = λ ws. Contains ws w in absurd (contains-none w (subst C (over_stopped l s (suc n) p g stop) c))
    at true go = let C : List Way → Type 0 = λ ws. Contains ws w in starts-by n before p g w (comes_to l s g.left) (subst C (over_on l s n p g go (comes_to l s g.left) refl) c)

  pub starts : (n : ℕ) → StartsAt n
  starts zero p g w c = let C : List Way → Type 0 = λ ws. Contains ws w in absurd (contains-none w (subst C (over_full l s p g) c))
  starts (suc n) p g w c = starts-step n (starts n) p g w c

  -- ---- the order

  abbrev InOrder : List Way → Type 0
  InOrder ws = AllPairs ComesBefore ws

  ports-behind : (p : Partial) (g : Passage) (w : Way) (rest : List Passage) (at : Port) → w.passages ≡ p.passages ++ g ∷ rest → g.left ≡ at → ports w ≡ map (λ (h : Passage). h.left) p.passages ++ at ∷ map (λ (h : Passage). h.left) rest
  ports-behind p g w rest at e left =
      ap (map (λ (h : Passage). h.left)) e ∙ map-append (λ (h : Passage). h.left) p.passages (g ∷ rest)
      ∙ ap (λ q. map (λ (h : Passage). h.left) p.passages ++ q ∷ map (λ (h : Passage). h.left) rest) left

  -- to the left before to the right
  across : (n : ℕ) (p : Partial) (entered : Port) (w v : Way) → (a b : Option Passage) → first_out entered ≡ a → second_out entered ≡ b
      → Contains (ways_over l s n p a) w → Contains (ways_over l s n p b) v → ComesBefore w v
  across n p entered w v None b first second c d = let C : List Way → Type 0 = λ ws. Contains ws w in absurd (contains-none w (subst C (over_none l s n p) c))
  across n p entered w v (Some g) None first second c d = let C : List Way → Type 0 = λ ws. Contains ws v in absurd (contains-none v (subst C (over_none l s n p) d))
  across n p entered w v (Some g) (Some h) first second c d =
      let one = starts n p g w c in
      let other = starts n p h v d in
      let part = legs-part entered g h first second in
      inr (
        one.0 ∙ sym other.0,
        record {
          shared = map (λ (k : Passage). k.left) p.passages;
          point = part.0;
          left = map (λ (k : Passage). k.left) one.1.0;
          right = map (λ (k : Passage). k.left) other.1.0;
          to_left = ports-behind p g w one.1.0 (leg part.0 side.Left) one.1.1 part.1;
          to_right = ports-behind p h v other.1.0 (leg part.0 side.Right) other.1.1 part.2;
        },
      )

  abbrev OrderedAt : ℕ → Type 0
  OrderedAt n = (p : Partial) (next : Option Passage) → InOrder (ways_over l s n p next)

  both-ordered : (n : ℕ) → OrderedAt n → (p : Partial) (entered : Port) → InOrder (ways_over l s n p (first_out entered) ++ ways_over l s n p (second_out entered))
  both-ordered n before p entered =
      pairs-append ComesBefore (ways_over l s n p (first_out entered)) (ways_over l s n p (second_out entered)) (before p (first_out entered)) (before p (second_out entered))
      (λ w v c d. across n p entered w v (first_out entered) (second_out entered) refl refl c d)

  one-ordered : (w : Way) → InOrder (w ∷ [])
  one-ordered w = pairs-cons ComesBefore w [] (λ y none. absurd (contains-none y none)) (pairs-nil ComesBefore)

  ordered-by : (n : ℕ) → OrderedAt n → (p : Partial) (g : Passage) (b : Beyond) → InOrder (ways_on (λ next. ways_over l s n (longer l p g) next) s (longer l p g).passages b)
  ordered-by n before p g comes.Nowhere = pairs-nil ComesBefore
  ordered-by n before p g (comes.Exit x) = one-ordered (record { entry = s; exit = x; passages = (longer l p g).passages })
  ordered-by n before p g (comes.On entered) = both-ordered n before (longer l p g) entered

  ordered-step : (n : ℕ) → OrderedAt n → (p : Partial) (g : Passage) → InOrder (ways_over l s (suc n) p (Some g))
  ordered-step n before p g = at (may_go l p g) refl where
    at : (b : Bool) → may_go l p g ≡ b → InOrder (ways_over l s (suc n) p (Some g))
    at false stop = let O : List Way → Type 0 = λ ws. InOrder ws in subst O (sym (over_stopped l s (suc n) p g stop)) (pairs-nil ComesBefore)
    at true go = let O : List Way → Type 0 = λ ws. InOrder ws in subst O (sym (over_on l s n p g go (comes_to l s g.left) refl)) (ordered-by n before p g (comes_to l s g.left))

  pub ordered : (n : ℕ) → OrderedAt n
  ordered n p None = let O : List Way → Type 0 = λ ws. InOrder ws in subst O (sym (over_none l s n p)) (pairs-nil ComesBefore)
  ordered zero p (Some g) = let O : List Way → Type 0 = λ ws. InOrder ws in subst O (sym (over_full l s p g)) (pairs-nil ComesBefore)
  ordered (suc n) p (Some g) = ordered-step n (ordered n) p g

  ordered-behind : (judged : Bool) (o : Option Port) → InOrder (ways_behind judged l s o)
  ordered-behind judged None = pairs-nil ComesBefore
  ordered-behind judged (Some entered) = both-ordered 64 (ordered 64) (start judged) entered

  ordered-at : (judged : Bool) (o : Option Port) → InOrder (ways_at judged l s o)
  ordered-at judged None = pairs-nil ComesBefore
  ordered-at judged (Some from) = ordered-behind judged (joined_to l.joints from)

  pub from-ordered : (judged : Bool) → InOrder (ways_from judged l s)
  unfolding ways_from
  from-ordered judged = ordered-at judged (port_of l.signals s)
