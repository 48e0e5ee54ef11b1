-- What each step gave says what the list is that they gave together.
use Rattle.std.proofs.Common.{◌≡◌, nat_le, leb-true, le-leb, ℕ, suc, ◌+◌, ◌≤◌, Bool, true, false, List, [], ◌∷◌, length, All, Result, Ok, Err, if◌then◌else◌, refl, sym, ap, ◌∙◌, arith, rules}
use Rattle.std.specs.Bool.{Decides}
use Rattle.std.proofs.lemmas.List.Elements.{All-nil, All-cons, All-head, All-tail, All-same}
use Rattle.layout_text.specs.declared.fault.LayoutFault.{LayoutFault}
use Rattle.layout_text.specs.declared.fault.Place.{Place}
use Rattle.layout_text.specs.declared.fault.TableName.{TableName}
use Rattle.layout_text.specs.FirstFault.{◌>>=◌, each_of, all_of}
use Rattle.layout.proofs.OnceLemmas.{came_from, same_ok}

pub le-decides : (a b : ℕ) → Decides (nat_le a b) (a ≤ b)
le-decides a b = (leb-true a b, le-leb a b)

-- a test that was passed
pub passed : {A : Type 0} (b : Bool) (e : LayoutFault) (x y : A) → (if b then Ok x else Err e) ≡ Ok y → (b ≡ true) × (x ≡ y)
passed true e x y h = (refl, same_ok x y h)
passed false e x y h = search rules

-- what a step makes of each entry
module _ {A B : Type 0} (step : Place → A → Result B LayoutFault) (Q : A → Type 0) (P : B → Type 0) (makes : (place : Place) (x : A) (y : B) → Q x → step place x ≡ Ok y → P y) where
  pub each-all : (table : TableName) (n : ℕ) (xs : List A) (ys : List B) → All Q xs → each_of step table n xs ≡ Ok ys → All P ys
  unfolding each_of
  each-all table n [] ys h e = All-same P ys [] (sym (same_ok [] ys e)) (All-nil P)
  each-all table n (x ∷ xs) ys h e =
      let place : Place = record { table = table; entry = n } in
      let first = came_from (step place x) _ ys e in
      let rest = came_from (each_of step table (suc n) xs) (λ rest. Ok (first.0 ∷ rest)) ys first.2 in
      All-same P ys (first.0 ∷ rest.0) (sym (same_ok (first.0 ∷ rest.0) ys rest.2))
      (All-cons P first.0 rest.0 (makes place x first.0 (All-head Q x xs h) first.1) (each-all table (suc n) xs rest.0 (All-tail Q x xs h) rest.1))

-- what a test of each entry says
module _ {A B : Type 0} (test : Place → A → Result B LayoutFault) (Q : A → Type 0) (says : (place : Place) (x : A) (y : B) → test place x ≡ Ok y → Q x) where
  pub each-held : (table : TableName) (n : ℕ) (xs : List A) (ys : List B) → each_of test table n xs ≡ Ok ys → All Q xs
  unfolding each_of
  each-held table n [] ys e = All-nil Q
  each-held table n (x ∷ xs) ys e =
      let place : Place = record { table = table; entry = n } in
      let first = came_from (test place x) (λ y. each_of test table (suc n) xs >>= λ rest. Ok (y ∷ rest)) ys e in
      let rest = came_from (each_of test table (suc n) xs) (λ rest. Ok (first.0 ∷ rest)) ys first.2 in
      All-cons Q x xs (says place x first.0 first.1) (each-held table (suc n) xs rest.0 rest.1)

-- a test that an entry is none too many
module _ {A B : Type 0} (test : Place → A → Result B LayoutFault) (limit : ℕ) (says : (place : Place) (x : A) (y : B) → test place x ≡ Ok y → place.entry ≤ limit) where
  pub each-counted : (table : TableName) (n : ℕ) (xs : List A) (ys : List B) → n ≤ limit + 1 → each_of test table n xs ≡ Ok ys → n + length xs ≤ limit + 1
  unfolding each_of
  each-counted table n [] ys so_far e = omega (arith, so_far)
  each-counted table n (x ∷ xs) ys so_far e =
      let place : Place = record { table = table; entry = n } in
      let first = came_from (test place x) (λ y. each_of test table (suc n) xs >>= λ rest. Ok (y ∷ rest)) ys e in
      let rest = came_from (each_of test table (suc n) xs) (λ rest. Ok (first.0 ∷ rest)) ys first.2 in
      let here = says place x first.0 first.1 in
      let later = each-counted table (suc n) xs rest.0 (omega (arith, here)) rest.1 in
      omega (arith, later)

-- the same within an entry
pub all-all : {A B : Type 0} (step : A → Result B LayoutFault) (P : B → Type 0) → ((x : A) (y : B) → step x ≡ Ok y → P y) → (xs : List A) (ys : List B) → all_of step xs ≡ Ok ys → All P ys
unfolding all_of
all-all step P makes [] ys e = All-same P ys [] (sym (same_ok [] ys e)) (All-nil P)
all-all step P makes (x ∷ xs) ys e =
    let first = came_from (step x) (λ y. all_of step xs >>= λ rest. Ok (y ∷ rest)) ys e in
    let rest = came_from (all_of step xs) (λ rest. Ok (first.0 ∷ rest)) ys first.2 in
    All-same P ys (first.0 ∷ rest.0) (sym (same_ok (first.0 ∷ rest.0) ys rest.2)) (All-cons P first.0 rest.0 (makes x first.0 first.1) (all-all step P makes xs rest.0 rest.1))

pub all-length : {A B : Type 0} (step : A → Result B LayoutFault) (xs : List A) (ys : List B) → all_of step xs ≡ Ok ys → length ys ≡ length xs
unfolding all_of
all-length step [] ys e = ap length (sym (same_ok [] ys e))
all-length step (x ∷ xs) ys e =
    let first = came_from (step x) _ ys e in
    let rest = came_from (all_of step xs) (λ rest. Ok (first.0 ∷ rest)) ys first.2 in
    ap length (sym (same_ok (first.0 ∷ rest.0) ys rest.2)) ∙ ap suc (all-length step xs rest.0 rest.1)
