-- Those of a list that are kept, as they are seen.
use Rattle.std.proofs.Common.{◌≡◌, Bool, true, false, cond, List, [], ◌∷◌, ap, map, refl}
use Rattle.std.specs.List.{filter}

pub seen_kept : {A B : Type 0} (seen : A → B) (test : B → Bool) (all : List A) → map seen (filter (λ x. test (seen x)) all) ≡ filter test (map seen all)
seen_kept seen test [] = refl
seen_kept seen test (one ∷ others) = by (test (seen one)) (seen_kept seen test others)
  where
    by : (kept : Bool) → map seen (filter (λ x. test (seen x)) others) ≡ filter test (map seen others)
        → map seen (cond kept (one ∷ filter (λ x. test (seen x)) others) (filter (λ x. test (seen x)) others)) ≡ cond kept (seen one ∷ filter test (map seen others)) (filter test (map seen others))
    by true more = ap (λ l. seen one ∷ l) more
    by false more = more
