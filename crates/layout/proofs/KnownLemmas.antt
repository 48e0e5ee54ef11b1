-- Noting keys one after the other, as loops do.
use Rattle.std.proofs.Common.{◌≡◌, ℕ, zero, suc, ◌+◌, ◌≤◌, ◌<◌, Bool, false, List, [], ◌∷◌, ◌++◌, length, map, get_or, drop, Option, Some, None, is_some, Result, Ok, Err, refl, sym, ap, ◌∙◌, arith, rules}
use Rattle.std.proofs.lemmas.Bool.{false≢true}
use Rattle.std.proofs.lemmas.List.{drop_more, drop_all}
use Rattle.std.specs.Map.{lookup}
use Rattle.layout_text.specs.declared.fault.LayoutFault.{LayoutFault}
use Rattle.layout_text.specs.declared.fault.LayoutFault.TheVariants.{Toml, MissingKey, WrongKind, UnknownName, DoubleName, DoubleJoint, Limit, OutOfMemory}
use Rattle.layout_text.specs.declared.fault.Place.{Place}
use Rattle.layout_text.specs.declared.fault.TableName.{TableName}
use Rattle.layout.specs.declared.known.Double.{Double}
use Rattle.layout.specs.declared.entries.Joint.{Joint}
use Rattle.layout.specs.declared.port.Port.{Port}
use Rattle.layout.specs.declared.port.Element.TheVariants.{Track}
use Rattle.layout_text.specs.declared.entries.End.TheVariants as end
use Rattle.layout_text.specs.FirstFault.{◌>>=◌, Fails, each_of}
use Rattle.layout.specs.contracts.port.PortPartialEq.TheImpl as PortEq
use Rattle.layout.specs.Known.{same_port, note_key, note_each, note_all, note_lists}

-- where one part fails, the whole does
failed : {A B : Type 0} (f : LayoutFault) (read : Result A LayoutFault) (total : Result B LayoutFault) → Fails f read → (read ≡ Err f → total ≡ Err f) → Fails f total
failed OutOfMemory read total h then = tt
failed Toml read total h then = then h
failed (MissingKey p) read total h then = then h
failed (WrongKind p) read total h then = then h
failed (UnknownName p) read total h then = then h
failed (DoubleName p) read total h then = then h
failed (DoubleJoint p) read total h then = then h
failed (Limit p) read total h then = then h

nothing : {A : Type 0} (o : Option A) → is_some o ≡ false → o ≡ None
nothing None h = refl
nothing (Some x) h = absurd (false≢true (sym h))

pub not_known : {K : Type 0} (same : K → K → Bool) (known : List (K × Place)) (key : K) → is_some (lookup (same key) known) ≡ false → lookup (same key) known ≡ None
not_known same known key h = nothing (lookup (same key) known) h

pub is_noted : {K : Type 0} (same : K → K → Bool) (twice : Double) (known after : List (K × Place)) (key : K) (place : Place) → is_some (lookup (same key) known) ≡ false → after ≡ known ++ (key, place) ∷ [] → note_key same twice known key place ≡ Ok after
is_noted same twice known after key place new e = rw (new, e) refl

module _ {K : Type 0} (same : K → K → Bool) (twice : Double) where
  pub each-noted : (table : TableName) (keys : List K) (i : ℕ) (key : K) (known more : List (K × Place)) (total : Result (List (K × Place)) LayoutFault) → i < length keys → key ≡ get_or keys i key
      → note_key same twice known key (record { table = table; entry = i + 1 }) ≡ Ok more
      → note_each same twice table (i + 1) (drop i keys) known ≡ total → note_each same twice table (i + 1 + 1) (drop (i + 1) keys) more ≡ total
  unfolding note_each
  each-noted table keys i key known more total lt at h so_far =
      let n : i + 1 + 1 ≡ suc (i + 1) = omega arith in
      let one : note_each same twice table (i + 1) (drop i keys) known ≡ note_each same twice table (i + 1 + 1) (drop (i + 1) keys) more = rw (drop_more keys i key lt, ← at, h, n) refl in
      sym one ∙ so_far

  pub each-double : (table : TableName) (keys : List K) (i : ℕ) (key : K) (known : List (K × Place)) (f : LayoutFault) (total : Result (List (K × Place)) LayoutFault) → i < length keys → key ≡ get_or keys i key
      → Fails f (note_key same twice known key (record { table = table; entry = i + 1 }))
      → note_each same twice table (i + 1) (drop i keys) known ≡ total → Fails f total
  unfolding note_each
  each-double table keys i key known f total lt at h so_far =
      failed f (note_key same twice known key (record { table = table; entry = i + 1 })) total h (λ e.
      let one : note_each same twice table (i + 1) (drop i keys) known ≡ Err f = rw (drop_more keys i key lt, ← at, e) refl in
      sym so_far ∙ one)

  pub each-all_noted : (table : TableName) (keys : List K) (i : ℕ) (known : List (K × Place)) (total : Result (List (K × Place)) LayoutFault) → length keys ≤ i
      → note_each same twice table (i + 1) (drop i keys) known ≡ total → total ≡ Ok known
  unfolding note_each
  each-all_noted table keys i known total le so_far =
      let one : note_each same twice table (i + 1) (drop i keys) known ≡ Ok known = rw (drop_all i keys le) refl in
      sym so_far ∙ one

  pub all-noted : (place : Place) (keys : List K) (i : ℕ) (key : K) (known more : List (K × Place)) (total : Result (List (K × Place)) LayoutFault) → i < length keys → key ≡ get_or keys i key
      → note_key same twice known key place ≡ Ok more
      → note_all same twice place (drop i keys) known ≡ total → note_all same twice place (drop (i + 1) keys) more ≡ total
  unfolding note_all
  all-noted place keys i key known more total lt at h so_far =
      let one : note_all same twice place (drop i keys) known ≡ note_all same twice place (drop (i + 1) keys) more = rw (drop_more keys i key lt, ← at, h) refl in
      sym one ∙ so_far

  pub all-double : (place : Place) (keys : List K) (i : ℕ) (key : K) (known : List (K × Place)) (f : LayoutFault) (total : Result (List (K × Place)) LayoutFault) → i < length keys → key ≡ get_or keys i key
      → Fails f (note_key same twice known key place)
      → note_all same twice place (drop i keys) known ≡ total → Fails f total
  unfolding note_all
  all-double place keys i key known f total lt at h so_far =
      failed f (note_key same twice known key place) total h (λ e.
      let one : note_all same twice place (drop i keys) known ≡ Err f = rw (drop_more keys i key lt, ← at, e) refl in
      sym so_far ∙ one)

  pub all-all_noted : (place : Place) (keys : List K) (i : ℕ) (known : List (K × Place)) (total : Result (List (K × Place)) LayoutFault) → length keys ≤ i
      → note_all same twice place (drop i keys) known ≡ total → total ≡ Ok known
  unfolding note_all
  all-all_noted place keys i known total le so_far =
      let one : note_all same twice place (drop i keys) known ≡ Ok known = rw (drop_all i keys le) refl in
      sym so_far ∙ one

  -- the same over the entries of a table, each with its keys
  pub lists-noted : {A : Type 0} (keys_of : A → List K) (table : TableName) (xs : List A) (i : ℕ) (x : A) (known more : List (K × Place)) (total : Result (List (K × Place)) LayoutFault) → i < length xs → x ≡ get_or xs i x
      → note_all same twice (record { table = table; entry = i + 1 }) (keys_of x) known ≡ Ok more
      → note_lists same twice keys_of table (i + 1) (drop i xs) known ≡ total → note_lists same twice keys_of table (i + 1 + 1) (drop (i + 1) xs) more ≡ total
  unfolding note_lists
  lists-noted keys_of table xs i x known more total lt at h so_far =
      let n : i + 1 + 1 ≡ suc (i + 1) = omega arith in
      let one : note_lists same twice keys_of table (i + 1) (drop i xs) known ≡ note_lists same twice keys_of table (i + 1 + 1) (drop (i + 1) xs) more = rw (drop_more xs i x lt, ← at, h, n) refl in
      sym one ∙ so_far

  pub lists-double : {A : Type 0} (keys_of : A → List K) (table : TableName) (xs : List A) (i : ℕ) (x : A) (known : List (K × Place)) (f : LayoutFault) (total : Result (List (K × Place)) LayoutFault) → i < length xs → x ≡ get_or xs i x
      → Fails f (note_all same twice (record { table = table; entry = i + 1 }) (keys_of x) known)
      → note_lists same twice keys_of table (i + 1) (drop i xs) known ≡ total → Fails f total
  unfolding note_lists
  lists-double keys_of table xs i x known f total lt at h so_far =
      failed f (note_all same twice (record { table = table; entry = i + 1 }) (keys_of x) known) total h (λ e.
      let one : note_lists same twice keys_of table (i + 1) (drop i xs) known ≡ Err f = rw (drop_more xs i x lt, ← at, e) refl in
      sym so_far ∙ one)

  pub lists-all_noted : {A : Type 0} (keys_of : A → List K) (table : TableName) (xs : List A) (i : ℕ) (known : List (K × Place)) (total : Result (List (K × Place)) LayoutFault) → length xs ≤ i
      → note_lists same twice keys_of table (i + 1) (drop i xs) known ≡ total → total ≡ Ok known
  unfolding note_lists
  lists-all_noted keys_of table xs i known total le so_far =
      let one : note_lists same twice keys_of table (i + 1) (drop i xs) known ≡ Ok known = rw (drop_all i xs le) refl in
      sym so_far ∙ one

-- a step that has no fault
pub each_of-sure : {A B : Type 0} (f : A → B) (table : TableName) (n : ℕ) (xs : List A) → each_of (λ _ x. Ok (f x)) table n xs ≡ Ok (map f xs)
unfolding each_of
each_of-sure f table n [] = refl
each_of-sure f table n (x ∷ xs) = ap (λ rest. rest >>= λ ys. Ok (f x ∷ ys)) (each_of-sure f table (suc n) xs)

-- within a list it doesn't matter what stands past its end
pub get_or-any : {A : Type 0} (xs : List A) (i : ℕ) (d e : A) → i < length xs → get_or xs i d ≡ get_or xs i e
get_or-any [] i d e lt = absurd (omega arith)
get_or-any (x ∷ xs) zero d e lt = refl
get_or-any (x ∷ xs) (suc i) d e lt = get_or-any xs i d e (omega arith)

-- what stands past the end of a list of joints
abbrev pub no_joint : Joint
no_joint = let port : Port = record { element = Track (record { 0 = 0 }); end = end.A } in record { first = port; second = port }

-- `==` on ports
pub port_eq : (PortEq.eq-value).it ≡ same_port
port_eq = search rules
