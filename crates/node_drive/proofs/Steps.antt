-- Steps of a line, one after another.
use Rattle.std.proofs.Common.{◌≡◌, ℕ, Bool, List, [], ◌∷◌, ◌++◌, length, refl, sym, ap, ◌∙◌, append_assoc, append-nil, arith}
use Rattle.node_drive.specs.Kinds.{Kind, Meaning, InForce, Comes, Faulty}
use Rattle.node_drive.specs.Rounds.{Standing, heard_one, later_kept, line, next_kept, step, steps, told}

module _ {State In : Type 0} (kind : Kind State In) (now : ℕ) where
  -- how it stands doesn't depend on what was answered
  pub steps-any : (ks js : List Bool) (xs : List In) (a : Standing State) → (steps kind now ks xs a).1 ≡ (steps kind now js xs a).1
  steps-any ks js [] a = refl
  steps-any ks js (x ∷ xs) a = steps-any (later_kept ks) (later_kept js) xs (step kind now (next_kept ks) x a).1

  told-any : (ks js : List Bool) (meaning : Meaning In) (a : Standing State) → (told kind now ks meaning a).1 ≡ (told kind now js meaning a).1
  told-any ks js (InForce number) a = refl
  told-any ks js (Comes answer inputs) a = steps-any ks js inputs a
  told-any ks js (Faulty fault) a = refl

  pub line_any : (ks js : List Bool) (text : List ℕ) (a : Standing State) → (line kind now ks text a).1 ≡ (line kind now js text a).1
  line_any ks js text a = told-any ks js (kind.meaning now text a.state) (heard_one a)

  pub steps-standing : (xs ys : List In) (a : Standing State) → (steps kind now [] (xs ++ ys) a).1 ≡ (steps kind now [] ys (steps kind now [] xs a).1).1
  steps-standing [] ys a = refl
  steps-standing (x ∷ xs) ys a = steps-standing xs ys (step kind now (next_kept []) x a).1

  -- as many answers as steps, and then others
  pub steps-calls : (ks js : List Bool) (xs ys : List In) (a : Standing State) → length ks ≡ length xs
      → (steps kind now (ks ++ js) (xs ++ ys) a).0 ≡ (steps kind now ks xs a).0 ++ (steps kind now js ys (steps kind now [] xs a).1).0
  steps-calls [] js [] ys a e = refl
  steps-calls [] js (x ∷ xs) ys a e = absurd (omega (arith, e))
  steps-calls (k ∷ ks) js [] ys a e = absurd (omega (arith, e))
  steps-calls (k ∷ ks) js (x ∷ xs) ys a e =
      let next = (step kind now k x a).1 in
      ap (λ l. (step kind now k x a).0 ++ l) (steps-calls ks js xs ys next (omega (arith, e)))
      ∙ sym (append_assoc (step kind now k x a).0 (steps kind now ks xs next).0 (steps kind now js ys (steps kind now [] xs next).1).0)

  -- one more
  pub step_more : (xs : List In) (k : Bool) (x : In) (a b : Standing State) → b ≡ (steps kind now [] xs a).1 → (steps kind now [] (xs ++ x ∷ []) a).1 ≡ (step kind now k x b).1
  step_more xs k x a b e = steps-standing xs (x ∷ []) a ∙ ap (λ s. (step kind now k x s).1) (sym e)

  pub calls_more : (ks : List Bool) (k : Bool) (xs : List In) (x : In) (a b : Standing State) → length ks ≡ length xs → b ≡ (steps kind now [] xs a).1
      → (steps kind now ks xs a).0 ++ (step kind now k x b).0 ≡ (steps kind now (ks ++ k ∷ []) (xs ++ x ∷ []) a).0
  calls_more ks k xs x a b many e =
      ap (λ s. (steps kind now ks xs a).0 ++ (step kind now k x s).0) e
      ∙ ap (λ l. (steps kind now ks xs a).0 ++ l) (sym (append-nil (step kind now k x (steps kind now [] xs a).1).0))
      ∙ sym (steps-calls ks (k ∷ []) xs (x ∷ []) a many)

  -- where the next is cut off
  pub calls_split : (ks : List Bool) (k : Bool) (xs : List In) (x : In) (ys : List In) (a b : Standing State) → length ks ≡ length xs → b ≡ (steps kind now [] xs a).1
      → (steps kind now ks xs a).0 ++ ((step kind now k x b).0 ++ (steps kind now [] ys (step kind now k x b).1).0) ≡ (steps kind now (ks ++ k ∷ []) (xs ++ x ∷ ys) a).0
  calls_split ks k xs x ys a b many e =
      ap (λ s. (steps kind now ks xs a).0 ++ (steps kind now (k ∷ []) (x ∷ ys) s).0) e ∙ sym (steps-calls ks (k ∷ []) xs (x ∷ ys) a many)
