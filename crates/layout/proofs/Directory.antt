-- The directory leads from a name to the entry that has it.
use Rattle.std.proofs.Common.{◌≡◌, ℕ, zero, suc, ◌+◌, ◌-◌, ◌≤◌, ◌<◌, Bool, true, false, cond, ◌==◌, List, [], ◌∷◌, ◌++◌, length, map, All, slice_get, Option, Some, None, is_some, Ok, refl, sym, ap, subst, ◌∙◌, arith, rules}
use Rattle.std.proofs.lemmas.Bool.Decides.{Decides-eqb}
use Rattle.std.proofs.lemmas.Option.{slice_get_within}
use Rattle.std.proofs.lemmas.List.Elements.{All-nil, All-head, All-tail, All-same, All-push}
use Rattle.std.specs.Map.{lookup}
use Rattle.layout_text.specs.declared.fault.LayoutFault.TheVariants.{UnknownName}
use Rattle.layout_text.specs.declared.fault.Place.{Place}
use Rattle.layout_text.specs.declared.fault.TableName.{TableName}
use Rattle.layout_text.specs.declared.fault.TableName.TheVariants as named
use Rattle.layout.specs.declared.known.Double.TheVariants as double
use Rattle.layout_text.specs.Written.{LayoutText}
use Rattle.layout_text.specs.FirstFault.{◌>>=◌}
use Rattle.layout.specs.Known.{same_name, note_key, note_each}
use Rattle.layout.specs.Doubles.{ground_of, directory_of}
use Rattle.layout.specs.NamesResolved.{table_number, entry_named, number_in, number_named}
use Rattle.layout.proofs.OnceLemmas.{came_from, same_ok, was_false}
use Rattle.layout.proofs.Steps.{passed}

-- the names of the entries of a table, in order
abbrev pub names_under : LayoutText → TableName → List (List ℕ)
names_under text named.Station = text.station.name ∷ []
names_under text named.Section = text.sections
names_under text named.Track = map (λ t. t.name) text.tracks
names_under text named.Point = map (λ p. p.name) text.points
names_under text named.Border = text.borders
names_under text named.Joint = []
names_under text named.Signal = map (λ s. s.name) text.signals
names_under text named.Detector = map (λ d. d.name) text.detectors
names_under text named.Route = map (λ r. r.name) text.routes

-- a name leads to the place of the entry that has it
abbrev pub IsPlaced : LayoutText → List ℕ × Place → Type 0
IsPlaced text e = (1 ≤ e.1.entry) × (slice_get (names_under text e.1.table) (e.1.entry - 1) ≡ Some e.0)

abbrev Names : Type 0
Names = List (List ℕ × Place)

module _ (text : LayoutText) where
  key-placed : (known : Names) (name : List ℕ) (place : Place) (more : Names) → note_key same_name double.Name known name place ≡ Ok more → IsPlaced text (name, place) → All (IsPlaced text) known → All (IsPlaced text) more
  key-placed known name place more h here so_far =
      let new = was_false (is_some (lookup (same_name name) known)) _ (known ++ (name, place) ∷ []) more h in
      All-same (IsPlaced text) more (known ++ (name, place) ∷ []) (sym new.1) (All-push (IsPlaced text) known (name, place) so_far here)

  each-placed : (table : TableName) (n : ℕ) (names : List (List ℕ)) (known more : Names) → ((k : ℕ) → slice_get (names_under text table) (n + k) ≡ slice_get names k)
      → note_each same_name double.Name table (suc n) names known ≡ Ok more → All (IsPlaced text) known → All (IsPlaced text) more
  unfolding note_each
  each-placed table n [] known more at h so_far = All-same (IsPlaced text) more known (sym (same_ok known more h)) so_far
  each-placed table n (name ∷ names) known more at h so_far =
      let place : Place = record { table = table; entry = suc n } in
      let first = came_from (note_key same_name double.Name known name place) _ more h in
      let none : n ≡ n + 0 = omega arith in
      let back : suc n - 1 ≡ n = omega arith in
      let here : slice_get (names_under text table) n ≡ Some name = ap (slice_get (names_under text table)) none ∙ at 0 in
      let next : (k : ℕ) → slice_get (names_under text table) (suc n + k) ≡ slice_get names k = λ k.
      let e : suc n + k ≡ n + suc k = omega arith in ap (slice_get (names_under text table)) e ∙ at (suc k) in
      each-placed table (suc n) names first.0 more next first.2 (key-placed known name place first.0 first.1 (omega arith, ap (slice_get (names_under text table)) back ∙ here) so_far)

  whole : (table : TableName) (known more : Names) → note_each same_name double.Name table 1 (names_under text table) known ≡ Ok more → All (IsPlaced text) known → All (IsPlaced text) more
  whole table known more h so_far = each-placed table 0 (names_under text table) known more (λ k. let e : 0 + k ≡ k = omega arith in ap (slice_get (names_under text table)) e) h so_far

  ground-placed : (known : Names) → ground_of text ≡ Ok known → All (IsPlaced text) known
  unfolding ground_of
  ground-placed known h =
      let station : Place = record { table = named.Station; entry = 1 } in
      let one = came_from (note_key same_name double.Name [] text.station.name station) (λ v0. note_each same_name double.Name named.Section 1 text.sections v0 >>= λ v1. note_each same_name double.Name named.Track 1 (map (λ x. x.name) text.tracks) v1 >>= λ v2. note_each same_name double.Name named.Point 1 (map (λ x. x.name) text.points) v2 >>= λ v3. note_each same_name double.Name named.Border 1 text.borders v3) known h in
      let two = came_from (note_each same_name double.Name named.Section 1 text.sections one.0) _ known one.2 in
      let three = came_from (note_each same_name double.Name named.Track 1 (map (λ x. x.name) text.tracks) two.0) _ known two.2 in
      let four = came_from (note_each same_name double.Name named.Point 1 (map (λ x. x.name) text.points) three.0) _ known three.2 in
      whole named.Border four.0 known four.2 (whole named.Point three.0 four.0 four.1 (whole named.Track two.0 three.0 three.1 (whole named.Section one.0 two.0 two.1
      (key-placed [] text.station.name station one.0 one.1 (omega arith, refl) (All-nil (IsPlaced text))))))

  pub directory-placed : (known : Names) → directory_of text ≡ Ok known → All (IsPlaced text) known
  unfolding directory_of
  directory-placed known h =
      let one = came_from (ground_of text) _ known h in
      let two = came_from (note_each same_name double.Name named.Signal 1 (map (λ x. x.name) text.signals) one.0) _ known one.2 in
      let three = came_from (note_each same_name double.Name named.Detector 1 (map (λ x. x.name) text.detectors) two.0) _ known two.2 in
      whole named.Route three.0 known three.2 (whole named.Detector two.0 three.0 three.1 (whole named.Signal one.0 two.0 two.1 (ground-placed one.0 one.1)))

-- what a look-up finds has a key that passes
found_if : {K X : Type 0} (b : Bool) (test : K → Bool) (e : K × X) (es : List (K × X)) (v : X) → b ≡ test e.0 → cond b (Some e.1) (lookup test es) ≡ Some v
    → (P : K × X → Type 0) → P e → (lookup test es ≡ Some v → (k : K) × (test k ≡ true) × P (k, v)) → (k : K) × (test k ≡ true) × P (k, v)
found_if {K} {X} true test e es v h found P here later =
    let same : e.1 ≡ v = search (rules, found) in
    (e.0, sym h, subst (λ x. P (e.0, x)) same here)
found_if false test e es v h found P here later = later found

pub look-found : {K X : Type 0} (test : K → Bool) (P : K × X → Type 0) (es : List (K × X)) (v : X) → lookup test es ≡ Some v → All P es → (k : K) × (test k ≡ true) × P (k, v)
look-found test P [] v h all = search rules
look-found test P (e ∷ es) v h all = found_if (test e.0) test e es v refl h P (All-head P e es all) (λ later. look-found test P es v later (All-tail P e es all))

-- the tables are told apart by their numbers
table_at : ℕ → TableName
table_at zero = named.Station
table_at (suc zero) = named.Section
table_at (suc (suc zero)) = named.Track
table_at (suc (suc (suc zero))) = named.Point
table_at (suc (suc (suc (suc zero)))) = named.Border
table_at (suc (suc (suc (suc (suc zero))))) = named.Joint
table_at (suc (suc (suc (suc (suc (suc zero)))))) = named.Signal
table_at (suc (suc (suc (suc (suc (suc (suc zero))))))) = named.Detector
table_at _ = named.Route

at_number : (t : TableName) → table_at (table_number t) ≡ t
unfolding table_at
at_number named.Station = refl
at_number named.Section = refl
at_number named.Track = refl
at_number named.Point = refl
at_number named.Border = refl
at_number named.Joint = refl
at_number named.Signal = refl
at_number named.Detector = refl
at_number named.Route = refl

same_table : (t u : TableName) → (table_number t == table_number u) ≡ true → t ≡ u
same_table t u h = sym (at_number t) ∙ ap table_at ((Decides-eqb (table_number t) (table_number u)).0 h) ∙ at_number u

-- The entry of a table with this number has this name.
abbrev pub IsEntry : LayoutText → TableName → List ℕ → ℕ → Type 0
IsEntry text table name n = (k : List ℕ) × (same_name name k ≡ true) × (slice_get (names_under text table) n ≡ Some k)

module _ (text : LayoutText) (directory : List (List ℕ × Place)) (placed : All (IsPlaced text) directory) (place : Place) where
  pub entry-is : (name : List ℕ) (found : Place) → entry_named directory place name ≡ Some found → IsEntry text found.table name (found.entry - 1)
  entry-is name found h = let f = look-found (same_name name) (IsPlaced text) directory found h placed in (f.0, f.1, f.2.1)

  number-from : (table : TableName) (name : List ℕ) (o : Option Place) (n : ℕ) → entry_named directory place name ≡ o → number_in directory place table o ≡ Ok n → IsEntry text table name n
  number-from table name None n e h = search rules
  number-from table name (Some found) n e h =
      let is = passed (table_number found.table == table_number table) (UnknownName place) (found.entry - 1) n h in
      let same = same_table found.table table is.0 in
      subst (IsEntry text table name) is.1 (subst (λ t. IsEntry text t name (found.entry - 1)) same (entry-is name found e))

  pub number-is : (table : TableName) (name : List ℕ) (n : ℕ) → number_named directory place table name ≡ Ok n → IsEntry text table name n
  number-is table name n h = number-from table name (entry_named directory place name) n refl h

pub entry-within : (text : LayoutText) (table : TableName) (name : List ℕ) (n : ℕ) → IsEntry text table name n → n < length (names_under text table)
entry-within text table name n h = slice_get_within (names_under text table) n h.0 h.2
