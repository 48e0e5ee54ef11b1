-- What one call after the other adds to the ways that were found.
use Rattle.std.proofs.Common.{◌≡◌, ◌≢◌, ◌<◌, ◌-◌, ◌+◌, ℕ, zero, suc, true, false, List, [], ◌∷◌, ◌++◌, length, Option, Some, None, Ok, Err, refl, sym, ap, subst, ◌∙◌, arith, append_assoc, length-append}
use Rattle.std.specs.Prelude.{Result, if◌then◌else◌}
use Rattle.control_table.specs.layout.declared.ids.SignalId.{SignalId}
use Rattle.control_table.specs.layout.declared.entries.Exit.{Exit}
use Rattle.control_table.specs.layout.declared.port.Port.{Port}
use Rattle.control_table.specs.layout.Entries.{Site}
use Rattle.control_table.specs.Path.{Passage}
use Rattle.route_derivation.specs.declared.fault.Underived.{Underived}
use Rattle.route_derivation.specs.declared.fault.Underived.TheVariants.{TooMany, NoName, OutOfMemory}
use Rattle.route_derivation.specs.declared.search.Beyond.{Beyond}
use Rattle.route_derivation.specs.declared.search.Beyond.TheVariants as comes
use Rattle.route_derivation.specs.Ways.{Way}
use Rattle.route_derivation.specs.inside.WaySearch.{Partial, first_out, second_out, may_go, longer, comes_to, ways_on, ways_over, Adds}

-- ---- adding

append-none : (xs : List Way) → xs ≡ xs ++ []
append-none [] = refl
append-none (x ∷ xs) = ap (λ ys. x ∷ ys) (append-none xs)

pub adds_nothing : (old : List Way) → Adds (Ok tt) old old []
adds_nothing old = (append-none old, λ h. h)

-- one call that went well, and then another
pub adds_both : (r : Result (Unit {0}) Underived) (old mid new a b : List Way) → Adds (Ok tt) old mid a → Adds r mid new b → Adds r old new (a ++ b)
adds_both (Ok u) old mid new a b first second =
    (second.0 ∙ ap (λ xs. xs ++ b) first.0 ∙ append_assoc old a b, λ h. second.1 (first.1 h))
adds_both (Err TooMany) old mid new a b first second =
    let L : List Way → Type 0 = λ xs. 64 < length xs in subst L (ap (λ xs. xs ++ b) first.0 ∙ append_assoc old a b) second
adds_both (Err NoName) old mid new a b first second = tt
adds_both (Err OutOfMemory) old mid new a b first second = tt

-- a call that stopped, whatever would have come after it
pub adds_stopped : (e : Underived) (old mid new a b : List Way) → Adds (Err e) old mid a → Adds (Err e) old new (a ++ b)
adds_stopped TooMany old mid new a b h =
    let here : length ((old ++ a) ++ b) ≡ length (old ++ a) + length b = length-append (old ++ a) b in
    let many : 64 < length ((old ++ a) ++ b) = omega (arith, here, h) in
    let L : List Way → Type 0 = λ xs. 64 < length xs in
    subst L (append_assoc old a b) many
adds_stopped NoName old mid new a b h = tt
adds_stopped OutOfMemory old mid new a b h = tt

-- ---- the ways over a passage, by what the code tests

module _ (l : Site) (s : SignalId) where
  pub over_none : (room : ℕ) (p : Partial) → ways_over l s room p None ≡ []
  unfolding ways_over
  over_none zero p = refl
  over_none (suc n) p = refl

  pub over_full : (p : Partial) (g : Passage) → ways_over l s 0 p (Some g) ≡ []
  unfolding ways_over
  over_full p g = refl

  pub over_stopped : (room : ℕ) (p : Partial) (g : Passage) → may_go l p g ≡ false → ways_over l s room p (Some g) ≡ []
  unfolding ways_over
  over_stopped zero p g h = refl
  over_stopped (suc n) p g h = ap (λ b. if b then ways_on (λ next. ways_over l s n (longer l p g) next) s (longer l p g).passages (comes_to l s g.left) else []) h

  pub over_on : (n : ℕ) (p : Partial) (g : Passage) → may_go l p g ≡ true → (b : Beyond) → comes_to l s g.left ≡ b
      → ways_over l s (suc n) p (Some g) ≡ ways_on (λ next. ways_over l s n (longer l p g) next) s (longer l p g).passages b
  unfolding ways_over
  over_on n p g h b e =
      ap (λ b. if b then ways_on (λ next. ways_over l s n (longer l p g) next) s (longer l p g).passages (comes_to l s g.left) else []) h
      ∙ ap (λ c. ways_on (λ next. ways_over l s n (longer l p g) next) s (longer l p g).passages c) e

  pub over_nowhere : (room : ℕ) (p : Partial) (g : Passage) → may_go l p g ≡ true → comes_to l s g.left ≡ comes.Nowhere → ways_over l s room p (Some g) ≡ []
  over_nowhere zero p g h e = over_full p g
  over_nowhere (suc n) p g h e = over_on n p g h comes.Nowhere e

  pub over_end : (room : ℕ) (p : Partial) (g : Passage) (x : Exit) → room ≢ 0 → may_go l p g ≡ true → comes_to l s g.left ≡ comes.Exit x
      → ways_over l s room p (Some g) ≡ record { entry = s; exit = x; passages = (longer l p g).passages } ∷ []
  over_end zero p g x some h e = absurd (some refl)
  over_end (suc n) p g x some h e = over_on n p g h (comes.Exit x) e

  pub over_further : (room : ℕ) (p : Partial) (g : Passage) (entered : Port) → room ≢ 0 → may_go l p g ≡ true → comes_to l s g.left ≡ comes.On entered
      → ways_over l s room p (Some g) ≡ ways_over l s (room - 1) (longer l p g) (first_out entered) ++ ways_over l s (room - 1) (longer l p g) (second_out entered)
  over_further zero p g entered some h e = absurd (some refl)
  over_further (suc n) p g entered some h e =
      let less : n ≡ suc n - 1 = omega arith in
      over_on n p g h (comes.On entered) e ∙ ap (λ m. ways_over l s m (longer l p g) (first_out entered) ++ ways_over l s m (longer l p g) (second_out entered)) less

  -- ---- what the code adds at each of its exits

  module _ (room : ℕ) (p : Partial) (next : Option Passage) (old : List Way) where
    abbrev Added : Result (Unit {0}) Underived → List Way → Type 0
    Added r new = Adds r old new (ways_over l s room p next)

    empty : ways_over l s room p next ≡ [] → Added (Ok tt) old
    empty e = let A : List Way → Type 0 = λ ways. Adds (Ok tt) old old ways in subst A (sym e) (adds_nothing old)

    pub adds_at_none : next ≡ None → Added (Ok tt) old
    adds_at_none e = empty (ap (λ o. ways_over l s room p o) e ∙ over_none room p)

    pub adds_at_full : (g : Passage) → next ≡ Some g → room ≡ 0 → Added (Ok tt) old
    adds_at_full g e full = empty (ap (λ o. ways_over l s room p o) e ∙ ap (λ n. ways_over l s n p (Some g)) full ∙ over_full p g)

    pub adds_at_stop : (g : Passage) → next ≡ Some g → may_go l p g ≡ false → Added (Ok tt) old
    adds_at_stop g e stop = empty (ap (λ o. ways_over l s room p o) e ∙ over_stopped room p g stop)

    pub adds_at_nowhere : (g : Passage) → next ≡ Some g → may_go l p g ≡ true → comes_to l s g.left ≡ comes.Nowhere → Added (Ok tt) old
    adds_at_nowhere g e go to = empty (ap (λ o. ways_over l s room p o) e ∙ over_nowhere room p g go to)

    pub adds_at_end : (g : Passage) (x : Exit) (q : Partial) (w : Way) (r : Result (Unit {0}) Underived) (new : List Way)
        → next ≡ Some g → room ≢ 0 → may_go l p g ≡ true → comes_to l s g.left ≡ comes.Exit x → q ≡ longer l p g → w ≡ record { entry = s; exit = x; passages = q.passages }
        → Adds r old new (w ∷ []) → Added r new
    adds_at_end g x q w r new e some go to more is h =
        let A : List Way → Type 0 = λ ways. Adds r old new ways in
        let same : w ∷ [] ≡ ways_over l s room p next =
        ap (λ v. v ∷ []) (is ∙ ap (λ (m : Partial). record { entry = s; exit = x; passages = m.passages }) more) ∙ sym (ap (λ o. ways_over l s room p o) e ∙ over_end room p g x some go to) in
        subst A same h

    further : (g : Passage) (entered : Port) (q : Partial) (f k : Option Passage) → next ≡ Some g → room ≢ 0 → may_go l p g ≡ true → comes_to l s g.left ≡ comes.On entered
        → q ≡ longer l p g → f ≡ first_out entered → k ≡ second_out entered
        → ways_over l s (room - 1) q f ++ ways_over l s (room - 1) q k ≡ ways_over l s room p next
    further g entered q f k e some go to more first second =
        ap (λ m. ways_over l s (room - 1) m f ++ ways_over l s (room - 1) m k) more
        ∙ ap (λ o. ways_over l s (room - 1) (longer l p g) o ++ ways_over l s (room - 1) (longer l p g) k) first
        ∙ ap (λ o. ways_over l s (room - 1) (longer l p g) (first_out entered) ++ ways_over l s (room - 1) (longer l p g) o) second
        ∙ sym (ap (λ o. ways_over l s room p o) e ∙ over_further room p g entered some go to)

    pub adds_further_err : (g : Passage) (entered : Port) (q : Partial) (f : Option Passage) (stop : Underived) (mid : List Way) → next ≡ Some g → room ≢ 0 → may_go l p g ≡ true → comes_to l s g.left ≡ comes.On entered
        → q ≡ longer l p g → f ≡ first_out entered
        → Adds (Err stop) old mid (ways_over l s (room - 1) q f) → Added (Err stop) mid
    adds_further_err g entered q f stop mid e some go to more first h =
        let A : List Way → Type 0 = λ ways. Adds (Err stop) old mid ways in
        subst A (further g entered q f (second_out entered) e some go to more first refl) (adds_stopped stop old mid mid (ways_over l s (room - 1) q f) (ways_over l s (room - 1) q (second_out entered)) h)

    pub adds_further_ok : (g : Passage) (entered : Port) (q : Partial) (f k : Option Passage) (r : Result (Unit {0}) Underived) (mid new : List Way) → next ≡ Some g → room ≢ 0 → may_go l p g ≡ true → comes_to l s g.left ≡ comes.On entered
        → q ≡ longer l p g → f ≡ first_out entered → k ≡ second_out entered
        → Adds (Ok tt) old mid (ways_over l s (room - 1) q f) → Adds r mid new (ways_over l s (room - 1) q k) → Added r new
    adds_further_ok g entered q f k r mid new e some go to more first second a b =
        let A : List Way → Type 0 = λ ways. Adds r old new ways in
        subst A (further g entered q f k e some go to more first second) (adds_both r old mid new (ways_over l s (room - 1) q f) (ways_over l s (room - 1) q k) a b)
