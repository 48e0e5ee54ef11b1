-- Lists that are made one after another.
use Rattle.std.proofs.Common.{◌≡◌, ◌∙◌, ◌+◌, ◌-◌, ◌<◌, ◌≤◌, ℕ, zero, suc, sym, ap, List, [], ◌∷◌, ◌++◌, length, drop, get_or, Option, Some, arith, drop-cons}
use Rattle.std.specs.Prelude.{slice_get}
use Rattle.std.proofs.lemmas.List.{append_assoc, append-nil, drop_all}
use Rattle.node_drive.specs.node_lines.declared.operator_line.Known.{Known}
use Rattle.node_kinds.specs.Interlockings.{each, of_each}

-- ---- what a list has at a place

pub got_here : {A : Type 0} (list : List A) (place : ℕ) (one : A) → slice_get list place ≡ Some one → one ≡ get_or list place one
got_here [] place one is = cc
got_here (first ∷ others) zero one is = cc
got_here (first ∷ others) (suc place) one is = got_here others place one is

pub got_below : {A : Type 0} (list : List A) (place : ℕ) (one : A) → slice_get list place ≡ Some one → place < length list
got_below [] place one is = cc
got_below (first ∷ others) zero one is = omega arith
got_below (first ∷ others) (suc place) one is =
    let below = got_below others place one is in
    omega (arith, below)

-- ---- of so many places

each_next : (of : ℕ → Option Known) (place all : ℕ) → place < all → each of place (all - place) ≡ of place ∷ each of (place + 1) (all - (place + 1))
each_next of place all below =
    let here : all - place ≡ suc (all - (place + 1)) = omega (arith, below) in
    let next : suc place ≡ place + 1 = omega arith in
    ap (each of place) here ∙ ap (λ p. of place ∷ each of p (all - (place + 1))) next

each_done : (of : ℕ → Option Known) (place all : ℕ) → all ≤ place → each of place (all - place) ≡ []
each_done of place all above =
    let here : all - place ≡ 0 = omega (arith, above) in
    ap (each of place) here

-- one more was added
pub one_added : (of : ℕ → Option Known) (place all : ℕ) (so_far new wanted : List (Option Known)) (one : Option Known) → place < all → one ≡ of place → new ≡ so_far ++ one ∷ [] → so_far ++ each of place (all - place) ≡ wanted
    → new ++ each of (place + 1) (all - (place + 1)) ≡ wanted
one_added of place all so_far new wanted one below one_is new_is before =
    let rest = each of (place + 1) (all - (place + 1)) in
    ap (λ l. l ++ rest) new_is
    ∙ append_assoc so_far (one ∷ []) rest
    ∙ ap (λ o. so_far ++ o ∷ rest) one_is
    ∙ ap (λ l. so_far ++ l) (sym (each_next of place all below))
    ∙ before

pub all_added : (of : ℕ → Option Known) (place all : ℕ) (so_far wanted : List (Option Known)) → all ≤ place → so_far ++ each of place (all - place) ≡ wanted → so_far ≡ wanted
all_added of place all so_far wanted above before =
    sym (append-nil so_far) ∙ ap (λ l. so_far ++ l) (sym (each_done of place all above)) ∙ before

-- ---- over a list, from a place on

module _ {A B : Type 0} (comes : ℕ → A → List B) where
  over_next : (place : ℕ) (all : List A) (one : A) → place < length all → one ≡ get_or all place one → of_each comes place (drop place all) ≡ comes place one ++ of_each comes (place + 1) (drop (place + 1) all)
  over_next place all one below there =
      let next : suc place ≡ place + 1 = omega arith in
      ap (of_each comes place) (drop-cons all place one below)
      ∙ ap (λ o. comes place o ++ of_each comes (suc place) (drop (suc place) all)) (sym there)
      ∙ ap (λ p. comes place one ++ of_each comes p (drop p all)) next

  -- what comes of the next one was added
  pub one_over : (place : ℕ) (all : List A) (one : A) (so_far new wanted added : List B) → place < length all → one ≡ get_or all place one → added ≡ comes place one → new ≡ so_far ++ added
      → so_far ++ of_each comes place (drop place all) ≡ wanted → new ++ of_each comes (place + 1) (drop (place + 1) all) ≡ wanted
  one_over place all one so_far new wanted added below there added_is new_is before =
      let rest = of_each comes (place + 1) (drop (place + 1) all) in
      ap (λ l. l ++ rest) new_is
      ∙ append_assoc so_far added rest
      ∙ ap (λ t. so_far ++ (t ++ rest)) added_is
      ∙ ap (λ l. so_far ++ l) (sym (over_next place all one below there))
      ∙ before

  pub all_over : (place : ℕ) (all : List A) (so_far wanted : List B) → length all ≤ place → so_far ++ of_each comes place (drop place all) ≡ wanted → so_far ≡ wanted
  all_over place all so_far wanted above before =
      sym (append-nil so_far) ∙ ap (λ l. so_far ++ of_each comes place l) (sym (drop_all place all above)) ∙ before
