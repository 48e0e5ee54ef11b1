-- What was noted without a fault stands once, and an entry keeps the name and the identity that are written.
use Rattle.std.proofs.Common.{◌≡◌, AllPairs, flat_map, ℕ, zero, suc, ◌<◌, Bool, true, false, List, [], ◌∷◌, ◌++◌, length, map, get_or, is_some, Result, Ok, Err, if◌then◌else◌, refl, sym, ap, ◌∙◌, append_assoc, arith, rules}
use Rattle.std.proofs.lemmas.Bool.{false≢true}
use Rattle.std.proofs.lemmas.Bool.Decides.{Decides-eqb}
use Rattle.std.proofs.lemmas.Slice.Eq.{bytes_eq-Decides}
use Rattle.std.proofs.lemmas.List.{append-nil, map-append}
use Rattle.std.proofs.lemmas.List.Quantifiers.{all_pairs_push}
use Rattle.std.proofs.lemmas.Map.{NonePasses, none_passes_from_lookup}
use Rattle.std.specs.Map.{lookup, keys_of}
use Rattle.sci_telegram.specs.Names.{name_field}
use Rattle.layout_text.specs.declared.fault.LayoutFault.{LayoutFault}
use Rattle.layout_text.specs.declared.fault.Place.{Place}
use Rattle.layout_text.specs.declared.fault.TableName.{TableName}
use Rattle.layout.specs.declared.known.Double.{Double}
use Rattle.layout.specs.declared.port.Port.{Port}
use Rattle.layout.specs.declared.port.Element.{Element}
use Rattle.layout.specs.declared.port.Element.TheVariants.{Track, Point, Border}
use Rattle.layout.specs.declared.entries.Joint.{Joint}
use Rattle.layout_text.specs.FirstFault.{◌>>=◌, each_of}
use Rattle.layout.specs.Known.{same_name, same_element, same_port, note_key, note_each, note_all, note_lists}
use Rattle.layout.specs.Doubles.{same_id, ports_joined}
use Rattle.layout.specs.Once.{Distinct, joined_ports}
use Rattle.layout.proofs.KnownLemmas.{not_known}

-- what a step gave, where the steps together gave something
pub came_from : {A B : Type 0} (read : Result A LayoutFault) (f : A → Result B LayoutFault) (y : B) → read >>= f ≡ Ok y → (x : A) × (read ≡ Ok x) × (f x ≡ Ok y)
came_from (Ok x) f y h = (x, refl, h)
came_from (Err e) f y h = search rules

abbrev pub read_as : {A : Type 0} → A → Result A LayoutFault
read_as x = Ok x

pub same_ok : {A : Type 0} (x y : A) → read_as x ≡ read_as y → x ≡ y
same_ok x y h = search rules

-- a test that has to have failed
pub was_false : {A : Type 0} (b : Bool) (e : LayoutFault) (x y : A) → (if b then Err e else Ok x) ≡ Ok y → (b ≡ false) × (x ≡ y)
was_false true e x y h = search rules
was_false false e x y h = (refl, same_ok x y h)

-- no key is the same as an earlier one
abbrev pub Apart : {K : Type 0} → (K → K → Bool) → List K → Type 0
Apart same keys = AllPairs (λ a b. same b a ≡ false) keys

pub apart_distinct : {K : Type 0} (same : K → K → Bool) → ((k : K) → same k k ≡ true) → (keys : List K) → Apart same keys → Distinct keys
apart_distinct same reflexive keys h i j d below within = λ e. false≢true (sym (h i j d below within) ∙ (ap (same (get_or keys j d)) e ∙ reflexive (get_or keys j d)))

module _ {K : Type 0} (same : K → K → Bool) where
  -- a key that none of the known ones equals differs from each
  apart : (known : List (K × Place)) (key : K) → NonePasses (same key) known → (i : ℕ) (d : K) → i < length (keys_of known) → same key (get_or (keys_of known) i d) ≡ false
  apart [] key none i d lt = absurd (omega arith)
  apart (e ∷ es) key none zero d lt = none.0
  apart (e ∷ es) key none (suc i) d lt = apart es key none.1 i d (omega arith)

  pub key_once : (twice : Double) (known : List (K × Place)) (key : K) (place : Place) (more : List (K × Place)) → note_key same twice known key place ≡ Ok more
      → Apart same (keys_of known) → (keys_of more ≡ keys_of known ++ key ∷ []) × Apart same (keys_of more)
  key_once twice known key place more h once =
      let new = was_false (is_some (lookup (same key) known)) _ (known ++ (key, place) ∷ []) more h in
      let keys : keys_of more ≡ keys_of known ++ key ∷ [] = rw (← new.1) (map-append (λ e. e.0) known ((key, place) ∷ [])) in
      let none = none_passes_from_lookup (same key) known (not_known same known key new.0) in
      (keys, rw keys (all_pairs_push (λ a b. same b a ≡ false) (keys_of known) key once (λ i d lt. apart known key none i d lt)))

  pub each_once : (twice : Double) (table : TableName) (n : ℕ) (keys : List K) (known more : List (K × Place)) → note_each same twice table n keys known ≡ Ok more
      → Apart same (keys_of known) → (keys_of more ≡ keys_of known ++ keys) × Apart same (keys_of more)
  unfolding note_each
  each_once twice table n [] known more h once =
      let e : known ≡ more = same_ok known more h in
      rw (← e) (sym (append-nil (keys_of known)), once)
  each_once twice table n (key ∷ keys) known more h once =
      let place : Place = record { table = table; entry = n } in
      let first = came_from (note_key same twice known key place) (λ m. note_each same twice table (suc n) keys m) more h in
      let noted = key_once twice known key place first.0 first.1 once in
      let rest = each_once twice table (suc n) keys first.0 more first.2 noted.1 in
      (rest.0 ∙ (ap (λ ks. ks ++ keys) noted.0 ∙ append_assoc (keys_of known) (key ∷ []) keys), rest.1)

  pub all_once : (twice : Double) (place : Place) (keys : List K) (known more : List (K × Place)) → note_all same twice place keys known ≡ Ok more
      → Apart same (keys_of known) → (keys_of more ≡ keys_of known ++ keys) × Apart same (keys_of more)
  unfolding note_all
  all_once twice place [] known more h once =
      let e : known ≡ more = same_ok known more h in
      rw (← e) (sym (append-nil (keys_of known)), once)
  all_once twice place (key ∷ keys) known more h once =
      let first = came_from (note_key same twice known key place) (λ m. note_all same twice place keys m) more h in
      let noted = key_once twice known key place first.0 first.1 once in
      let rest = all_once twice place keys first.0 more first.2 noted.1 in
      (rest.0 ∙ (ap (λ ks. ks ++ keys) noted.0 ∙ append_assoc (keys_of known) (key ∷ []) keys), rest.1)

-- `==` on keys is reflexive
pub same_name-refl : (n : List ℕ) → same_name n n ≡ true
same_name-refl n = (bytes_eq-Decides (name_field n) (name_field n)).1 refl

pub same_id-refl : (n : ℕ) → same_id n n ≡ true
same_id-refl n = (Decides-eqb n n).1 refl

same_element-refl : (e : Element) → same_element e e ≡ true
same_element-refl (Track t) = (Decides-eqb t.0 t.0).1 refl
same_element-refl (Point p) = (Decides-eqb p.0 p.0).1 refl
same_element-refl (Border b) = (Decides-eqb b.0 b.0).1 refl

pub same_port-refl : (p : Port) → same_port p p ≡ true
same_port-refl p = rw (same_element-refl p.element) ((Decides-eqb _ _).1 refl)

pub nothing_twice : {A : Type 0} (same : A → A → Bool) → Apart same []
nothing_twice same i j d ij lt = absurd (omega arith)

-- the keys of the entries of a table, one list after the other
module _ {K A : Type 0} (same : K → K → Bool) (keys_in : A → List K) where
  pub lists_once : (twice : Double) (table : TableName) (n : ℕ) (xs : List A) (known more : List (K × Place)) → note_lists same twice keys_in table n xs known ≡ Ok more
      → Apart same (keys_of known) → (keys_of more ≡ keys_of known ++ flat_map keys_in xs) × Apart same (keys_of more)
  unfolding note_lists
  lists_once twice table n [] known more h once =
      let e : known ≡ more = same_ok known more h in
      rw (← e) (sym (append-nil (keys_of known)), once)
  lists_once twice table n (x ∷ xs) known more h once =
      let place : Place = record { table = table; entry = n } in
      let first = came_from (note_all same twice place (keys_in x) known) (λ m. note_lists same twice keys_in table (suc n) xs m) more h in
      let noted = all_once same twice place (keys_in x) known first.0 first.1 once in
      let rest = lists_once twice table (suc n) xs first.0 more first.2 noted.1 in
      (rest.0 ∙ (ap (λ ks. ks ++ flat_map keys_in xs) noted.0 ∙ append_assoc (keys_of known) (keys_in x) (flat_map keys_in xs)), rest.1)

pub joined-flat : (joints : List Joint) → flat_map ports_joined joints ≡ joined_ports joints
joined-flat [] = refl
joined-flat (joint ∷ joints) = ap (λ ports. joint.first ∷ joint.second ∷ ports) (joined-flat joints)

-- what a step keeps of each entry is kept of the list
pub each_keeps : {A B C : Type 0} (step : Place → A → Result B LayoutFault) (f : A → C) (g : B → C) → ((place : Place) (x : A) (y : B) → step place x ≡ Ok y → g y ≡ f x)
    → (table : TableName) (n : ℕ) (xs : List A) (ys : List B) → each_of step table n xs ≡ Ok ys → map g ys ≡ map f xs
unfolding each_of
each_keeps step f g keeps table n [] ys h =
    let e : [] ≡ ys = same_ok [] ys h in
    ap (map g) (sym e)
each_keeps step f g keeps table n (x ∷ xs) ys h =
    let place : Place = record { table = table; entry = n } in
    let first = came_from (step place x) (λ y. each_of step table (suc n) xs >>= λ rest. Ok (y ∷ rest)) ys h in
    let rest = came_from (each_of step table (suc n) xs) (λ rest. Ok (first.0 ∷ rest)) ys first.2 in
    let e : first.0 ∷ rest.0 ≡ ys = same_ok _ ys rest.2 in
    rw (← e, keeps place x first.0 first.1, each_keeps step f g keeps table (suc n) xs rest.0 rest.1) refl
