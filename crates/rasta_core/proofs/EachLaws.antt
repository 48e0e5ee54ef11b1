-- Facts of each element of a list.
use Rattle.std.proofs.Common.{List, [], ◌∷◌, ◌++◌}
use Rattle.rasta_core_spec.specs.Each.{Each}

pub each_join : {X : Type 0} (P : X → Type 0) (first second : List X) → Each P first → Each P second → Each P (first ++ second)
each_join P [] second a b = b
each_join P (x ∷ xs) second a b = (a.0, each_join P xs second a.1 b)

pub each_turned : {X : Type 0} (P Q : X → Type 0) → ((x : X) → P x → Q x) → (list : List X) → Each P list → Each Q list
each_turned P Q f [] a = tt
each_turned P Q f (x ∷ xs) a = (f x a.0, each_turned P Q f xs a.1)
