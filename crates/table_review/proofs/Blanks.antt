-- Blanks in a text.
use Rattle.std.proofs.Common.{◌≡◌, ◌∙◌, ℕ, ◌+◌, ◌<◌, ◌≤◌, Bool, true, false, List, arith, refl, sym, subst}
use Rattle.std.specs.Prelude.{IsTrue, nat_eq}
use Rattle.std.proofs.lemmas.Bool.{eqb-false, eqb-true}
use Rattle.table_review.specs.Places.{AreBlanks, has_blank}

-- one more blank
pub next_blank : (text : List ℕ) (from at : ℕ) (blank : Bool) → AreBlanks text from at → blank ≡ has_blank text at → blank ≡ true → AreBlanks text from (at + 1)
next_blank text from at blank so_far is holds n le lt = cases (nat_eq n at) refl where
  cases : (b : Bool) → nat_eq n at ≡ b → IsTrue (has_blank text n)
  cases true same = subst (λ m. IsTrue (has_blank text m)) (sym (eqb-true n at same)) (sym is ∙ holds)
  cases false other = let apart : n ≡ at → ⊥ = eqb-false n at other in so_far n le (omega (arith, lt, apart))
