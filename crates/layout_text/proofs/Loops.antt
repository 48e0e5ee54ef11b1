-- One step for each entry, one after the other, as a loop makes them.
use Rattle.std.proofs.Common.{◌≡◌, ℕ, suc, ◌+◌, ◌≤◌, ◌<◌, List, [], ◌∷◌, ◌++◌, length, get_or, drop, Result, Ok, Err, refl, sym, ap, ◌∙◌, append_assoc, arith}
use Rattle.std.proofs.lemmas.List.{append-nil, drop_more, drop_all}
use Rattle.layout_text.specs.declared.fault.LayoutFault.{LayoutFault}
use Rattle.layout_text.specs.declared.fault.LayoutFault.TheVariants.{Toml, MissingKey, WrongKind, UnknownName, DoubleName, DoubleJoint, Limit, OutOfMemory}
use Rattle.layout_text.specs.declared.fault.Place.{Place}
use Rattle.layout_text.specs.declared.fault.TableName.{TableName}
use Rattle.layout_text.specs.FirstFault.{◌>>=◌, Fails, each_of, all_of}

-- what was made before, and what is still made
abbrev pub with_front : {B : Type 0} → List B → Result (List B) LayoutFault → Result (List B) LayoutFault
with_front front read = read >>= λ xs. Ok (front ++ xs)

pub regroup : {B : Type 0} (front : List B) (y : B) (read : Result (List B) LayoutFault) → with_front front (read >>= λ ys. Ok (y ∷ ys)) ≡ with_front (front ++ y ∷ []) read
regroup front y (Ok ys) = ap Ok (sym (append_assoc front (y ∷ []) ys))
regroup front y (Err f) = refl

pub each-goes_on : {A B : Type 0} (step : Place → A → Result B LayoutFault) (table : TableName) (front : List B) (xs : List A) (i : ℕ) (x : A) (y : B) (total : Result (List B) LayoutFault) → i < length xs → x ≡ get_or xs i x
    → step (record { table = table; entry = i + 1 }) x ≡ Ok y
    → with_front front (each_of step table (i + 1) (drop i xs)) ≡ total → with_front (front ++ y ∷ []) (each_of step table (i + 1 + 1) (drop (i + 1) xs)) ≡ total
unfolding each_of
each-goes_on step table front xs i x y total lt at h so_far =
    let n : i + 1 + 1 ≡ suc (i + 1) = omega arith in
    let one : with_front front (each_of step table (i + 1) (drop i xs)) ≡ with_front (front ++ y ∷ []) (each_of step table (i + 1 + 1) (drop (i + 1) xs)) = rw (drop_more xs i x lt, ← at, h, n) (regroup front y (each_of step table (suc (i + 1)) (drop (i + 1) xs))) in
    sym one ∙ so_far

pub failed : {A B : Type 0} (f : LayoutFault) (read : Result A LayoutFault) (total : Result B LayoutFault) → Fails f read → (read ≡ Err f → total ≡ Err f) → Fails f total
failed OutOfMemory read total h then = tt
failed Toml read total h then = then h
failed (MissingKey p) read total h then = then h
failed (WrongKind p) read total h then = then h
failed (UnknownName p) read total h then = then h
failed (DoubleName p) read total h then = then h
failed (DoubleJoint p) read total h then = then h
failed (Limit p) read total h then = then h

pub each-ends : {A B : Type 0} (step : Place → A → Result B LayoutFault) (table : TableName) (f : LayoutFault) (front : List B) (xs : List A) (i : ℕ) (x : A) (total : Result (List B) LayoutFault) → i < length xs → x ≡ get_or xs i x
    → Fails f (step (record { table = table; entry = i + 1 }) x)
    → with_front front (each_of step table (i + 1) (drop i xs)) ≡ total → Fails f total
unfolding each_of
each-ends step table f front xs i x total lt at h so_far =
    failed f (step (record { table = table; entry = i + 1 }) x) total h (λ e.
    let one : with_front front (each_of step table (i + 1) (drop i xs)) ≡ Err f = rw (drop_more xs i x lt, ← at, e) refl in
    sym so_far ∙ one)

pub each-is_done : {A B : Type 0} (step : Place → A → Result B LayoutFault) (table : TableName) (front : List B) (xs : List A) (i : ℕ) (total : Result (List B) LayoutFault) → length xs ≤ i
    → with_front front (each_of step table (i + 1) (drop i xs)) ≡ total → total ≡ Ok front
unfolding each_of
each-is_done step table front xs i total le so_far =
    let one : with_front front (each_of step table (i + 1) (drop i xs)) ≡ Ok front = rw (drop_all i xs le) (ap Ok (append-nil front)) in
    sym so_far ∙ one

pub all-goes_on : {A B : Type 0} (step : A → Result B LayoutFault) (front : List B) (xs : List A) (i : ℕ) (x : A) (y : B) (total : Result (List B) LayoutFault) → i < length xs → x ≡ get_or xs i x
    → step x ≡ Ok y
    → with_front front (all_of step (drop i xs)) ≡ total → with_front (front ++ y ∷ []) (all_of step (drop (i + 1) xs)) ≡ total
unfolding all_of
all-goes_on step front xs i x y total lt at h so_far =
    let one : with_front front (all_of step (drop i xs)) ≡ with_front (front ++ y ∷ []) (all_of step (drop (i + 1) xs)) = rw (drop_more xs i x lt, ← at, h) (regroup front y (all_of step (drop (i + 1) xs))) in
    sym one ∙ so_far

pub all-ends : {A B : Type 0} (step : A → Result B LayoutFault) (f : LayoutFault) (front : List B) (xs : List A) (i : ℕ) (x : A) (total : Result (List B) LayoutFault) → i < length xs → x ≡ get_or xs i x
    → Fails f (step x)
    → with_front front (all_of step (drop i xs)) ≡ total → Fails f total
unfolding all_of
all-ends step f front xs i x total lt at h so_far =
    failed f (step x) total h (λ e.
    let one : with_front front (all_of step (drop i xs)) ≡ Err f = rw (drop_more xs i x lt, ← at, e) refl in
    sym so_far ∙ one)

pub all-is_done : {A B : Type 0} (step : A → Result B LayoutFault) (front : List B) (xs : List A) (i : ℕ) (total : Result (List B) LayoutFault) → length xs ≤ i
    → with_front front (all_of step (drop i xs)) ≡ total → total ≡ Ok front
unfolding all_of
all-is_done step front xs i total le so_far =
    let one : with_front front (all_of step (drop i xs)) ≡ Ok front = rw (drop_all i xs le) (ap Ok (append-nil front)) in
    sym so_far ∙ one
