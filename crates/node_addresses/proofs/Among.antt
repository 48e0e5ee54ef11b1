-- What is among two lists.
use Rattle.std.proofs.Common.{◌≡◌, ◌⊎◌, ◌++◌, Bool, true, false, List, inl, inr}
use Rattle.std.specs.Bool.{Decides}
use Rattle.std.specs.List.{Contains}
use Rattle.std.proofs.lemmas.List.Elements.{Contains-append_cases, Contains-append_right}

-- it is among both where it is among the second, as it isn't among the first
pub among_either : {A : Type 0} (xs ys : List A) (x : A) (one other : Bool) → Decides one (Contains xs x) → one ≡ false → Decides other (Contains ys x) → Decides other (Contains (xs ++ ys) x)
among_either xs ys x one other first none second = (λ is. Contains-append_right xs ys x (second.0 is), λ among. by (Contains-append_cases xs ys x among))
  where
    by : Contains xs x ⊎ Contains ys x → other ≡ true
    by (inl in_first) = let is = first.1 in_first in cc
    by (inr in_second) = second.1 in_second
