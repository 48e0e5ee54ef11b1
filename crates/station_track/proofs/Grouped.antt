-- Lists in which no section comes again after it was left.
use Rattle.std.proofs.Common.{◌≡◌, ◌≢◌, ℕ, List, [], ◌∷◌, refl, sym, ap, subst, ◌∙◌, inl, inr}
use Rattle.train_machine.specs.Lists.{IsOf, IsFirst, IsNext, IsEnd}

-- where one comes again, the next is the same
pub record IsTogether (section : ℕ → ℕ) (place : ℕ) (later : List ℕ) : Type 0 where
  pub stays : (again next : ℕ) → IsOf again later → section again ≡ section place → IsFirst next later → section next ≡ section place

abbrev pub IsGrouped : (ℕ → ℕ) → List ℕ → Type 0
IsGrouped section [] = Unit {0}
IsGrouped section (place ∷ later) = IsTogether section place later × IsGrouped section later

pub first-of : (place : ℕ) (places : List ℕ) → IsFirst place places → IsOf place places
first-of place [] h = absurd h
first-of place (first ∷ later) h = inl h

pub next-is-of : (a b : ℕ) (places : List ℕ) → IsNext a b places → IsOf b places
next-is-of a b [] h = absurd h
next-is-of a b (first ∷ later) (inl h) = inr (first-of b later h.1)
next-is-of a b (first ∷ later) (inr h) = inr (next-is-of a b later h)

module _ (section : ℕ → ℕ) where
  pub grouped-once : (places : List ℕ) → IsGrouped section places → (place next again : ℕ) (after : List ℕ) → IsEnd place (next ∷ after) places → IsOf again after
      → section again ≡ section place → section next ≡ section place
  grouped-once [] g place next again after h of same = absurd h
  grouped-once (first ∷ later) g place next again after (inl h) of same =
      let here : IsTogether section place (next ∷ after) = subst (λ p. IsTogether section p (next ∷ after)) h.0 (subst (IsTogether section first) h.1 g.0) in
      here.stays again next (inr of) same refl
  grouped-once (first ∷ later) g place next again after (inr h) of same = grouped-once later g.1 place next again after h of same

  pub grouped-not-back : (first : ℕ) (later : List ℕ) → IsGrouped section (first ∷ later) → (a b : ℕ) → IsNext a b (first ∷ later)
      → section a ≢ section b → section b ≢ section first
  grouped-not-back first later g a b (inl h) other same = other (sym (same ∙ ap section h.0))
  grouped-not-back first [] g a b (inr h) other same = absurd h
  grouped-not-back first (second ∷ later) g a b (inr h) other same =
      let back : section second ≡ section first = g.0.stays b second (next-is-of a b (second ∷ later) h) same refl in
      grouped-not-back second later g.1 a b h other (same ∙ sym back)

  -- the first is entered by none
  apart-from-first : (b : ℕ) (later : List ℕ) → IsFirst b later → IsGrouped section later → (c d : ℕ) → IsNext c d later → section c ≢ section d
      → section d ≢ section b
  apart-from-first b [] first g c d h other = absurd h
  apart-from-first b (second ∷ later) first g c d h other =
      subst (λ n. section d ≢ section n) first (grouped-not-back second later g c d h other)

  first-is : (b d : ℕ) (later : List ℕ) → IsFirst b later → IsFirst d later → b ≡ d
  first-is b d [] h k = absurd h
  first-is b d (first ∷ later) h k = sym h ∙ k

  pub grouped-entrance : (places : List ℕ) → IsGrouped section places → (a b c d : ℕ) → IsNext a b places → IsNext c d places → section b ≡ section d
      → section a ≢ section b → section c ≢ section d → section a ≡ section c
  grouped-entrance [] g a b c d h k same other apart = absurd h
  grouped-entrance (first ∷ later) g a b c d (inl h) (inl k) same other apart = ap section (sym h.0 ∙ k.0)
  grouped-entrance (first ∷ later) g a b c d (inl h) (inr k) same other apart =
      absurd (apart-from-first b later h.1 g.1 c d k apart (sym same))
  grouped-entrance (first ∷ later) g a b c d (inr h) (inl k) same other apart =
      absurd (apart-from-first d later k.1 g.1 a b h other same)
  grouped-entrance (first ∷ later) g a b c d (inr h) (inr k) same other apart = grouped-entrance later g.1 a b c d h k same other apart
