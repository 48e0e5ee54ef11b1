-- One step for each entry, one after the other, as a loop makes them.
use Rattle.std.proofs.Common.{◌≡◌, ℕ, suc, ◌+◌, ◌≤◌, ◌<◌, List, [], ◌∷◌, ◌++◌, length, get_or, drop, map, Result, Ok, Err, refl, sym, ap, ◌∙◌, append_assoc, arith}
use Rattle.std.proofs.lemmas.List.{append-nil, drop_more, drop_all}
use Rattle.toml.specs.Data.{Data}
use Rattle.toml.specs.View.{view}
use Rattle.toml.specs.declared.value.Value.{Value}
use Rattle.railway_layout.specs.declared.fault.TextFault.{TextFault}
use Rattle.railway_layout.specs.declared.fault.TextFault.TheVariants.{Toml, MissingKey, WrongKind, OutOfMemory}
use Rattle.railway_layout.specs.Reading.{◌>>=◌, Fails, each_of}

-- what was made before, and what is still made
abbrev pub with_front : {B : Type 0} → List B → Result (List B) TextFault → Result (List B) TextFault
with_front front read = read >>= λ xs. Ok (front ++ xs)

pub regroup : {B : Type 0} (front : List B) (y : B) (read : Result (List B) TextFault) → with_front front (read >>= λ ys. Ok (y ∷ ys)) ≡ with_front (front ++ y ∷ []) read
regroup front y (Ok ys) = ap Ok (sym (append_assoc front (y ∷ []) ys))
regroup front y (Err f) = refl

pub each-goes_on : {B : Type 0} (step : ℕ → Data → Result B TextFault) (front : List B) (xs : List Value) (i : ℕ) (x : Value) (y : B) (total : Result (List B) TextFault) → i < length xs → x ≡ get_or xs i x
    → step (i + 1) (view x) ≡ Ok y
    → with_front front (each_of step (i + 1) (map view (drop i xs))) ≡ total → with_front (front ++ y ∷ []) (each_of step (i + 1 + 1) (map view (drop (i + 1) xs))) ≡ total
unfolding each_of
each-goes_on step front xs i x y total lt at h so_far =
    let n : i + 1 + 1 ≡ suc (i + 1) = omega arith in
    let one : with_front front (each_of step (i + 1) (map view (drop i xs))) ≡ with_front (front ++ y ∷ []) (each_of step (i + 1 + 1) (map view (drop (i + 1) xs))) = rw (drop_more xs i x lt, ← at, h, n) (regroup front y (each_of step (suc (i + 1)) (map view (drop (i + 1) xs)))) in
    sym one ∙ so_far

pub failed : {A B : Type 0} (f : TextFault) (read : Result A TextFault) (total : Result B TextFault) → Fails f read → (read ≡ Err f → total ≡ Err f) → Fails f total
failed OutOfMemory read total h then = tt
failed Toml read total h then = then h
failed (MissingKey p) read total h then = then h
failed (WrongKind p) read total h then = then h

pub each-ends : {B : Type 0} (step : ℕ → Data → Result B TextFault) (f : TextFault) (front : List B) (xs : List Value) (i : ℕ) (x : Value) (total : Result (List B) TextFault) → i < length xs → x ≡ get_or xs i x
    → Fails f (step (i + 1) (view x))
    → with_front front (each_of step (i + 1) (map view (drop i xs))) ≡ total → Fails f total
unfolding each_of
each-ends step f front xs i x total lt at h so_far =
    failed f (step (i + 1) (view x)) total h (λ e.
    let one : with_front front (each_of step (i + 1) (map view (drop i xs))) ≡ Err f = rw (drop_more xs i x lt, ← at, e) refl in
    sym so_far ∙ one)

pub each-is_done : {B : Type 0} (step : ℕ → Data → Result B TextFault) (front : List B) (xs : List Value) (i : ℕ) (total : Result (List B) TextFault) → length xs ≤ i
    → with_front front (each_of step (i + 1) (map view (drop i xs))) ≡ total → total ≡ Ok front
unfolding each_of
each-is_done step front xs i total le so_far =
    let one : with_front front (each_of step (i + 1) (map view (drop i xs))) ≡ Ok front = rw (drop_all i xs le) (ap Ok (append-nil front)) in
    sym so_far ∙ one
