-- The tests before names are looked up never answer that a name is unknown.
use Rattle.std.proofs.Common.{◌≡◌, ℕ, suc, ◌&&◌, Bool, true, false, nat_le, List, [], ◌∷◌, ◌++◌, length, map, is_some, Ok, Err, if◌then◌else◌, refl, sym, ap, ◌∙◌, ◌+◌}
use Rattle.std.proofs.lemmas.Bool.{false≢true}
use Rattle.std.specs.Map.{lookup}
use Rattle.layout_text.specs.declared.fault.LayoutFault.{LayoutFault}
use Rattle.layout_text.specs.declared.fault.LayoutFault.TheVariants.{UnknownName, DoubleName, Limit}
use Rattle.layout_text.specs.declared.fault.Place.{Place}
use Rattle.layout_text.specs.declared.fault.TableName.{TableName}
use Rattle.layout_text.specs.declared.fault.TableName.TheVariants as named
use Rattle.layout.specs.declared.known.Double.TheVariants as double
use Rattle.layout_text.specs.Written.{LayoutText}
use Rattle.layout_text.specs.FirstFault.{Read, ◌>>=◌, each_of}
use Rattle.layout_text.specs.Limits.{at_most, detector_limit, route_limit, all_within, limits_of}
use Rattle.layout.specs.Known.{same_name, note_key, note_each, note_all, note_lists}
use Rattle.layout.specs.Doubles.{same_id, sections_reported, ground_of, directory_of, ids_of, reported_of}
use Rattle.layout.proofs.Stepwise.{same_err}
use Rattle.layout.proofs.Tells.{Quiet, quiet-ok, quiet-then, quiet-each}

abbrev is_unknown : LayoutFault → Bool
is_unknown (UnknownName place) = true
is_unknown _ = false

quiet-err : {A : Type 0} (f : LayoutFault) → is_unknown f ≡ false → Quiet {A = A} (Err f)
quiet-err {A} f other place h = false≢true (sym other ∙ ap is_unknown (same_err {A = A} f (UnknownName place) h))

quiet-test : {A : Type 0} (b : Bool) (x : A) (f : LayoutFault) → is_unknown f ≡ false → Quiet {A = A} (if b then Ok x else Err f)
quiet-test true x f other = quiet-ok x
quiet-test false x f other = quiet-err f other

quiet-refused : {A : Type 0} (b : Bool) (x : A) (f : LayoutFault) → is_unknown f ≡ false → Quiet {A = A} (if b then Err f else Ok x)
quiet-refused true x f other = quiet-err f other
quiet-refused false x f other = quiet-ok x

-- ---- the limits

quiet-within : {A : Type 0} (test : Place → A → Read (Unit {0})) (table : TableName) (xs : List A) → ((place : Place) (x : A) → Quiet (test place x)) → Quiet (all_within test table xs)
quiet-within test table xs quiet = quiet-then (each_of test table 1 xs) (λ _. Ok tt) (quiet-each test quiet table 1 xs) (λ _. quiet-ok tt)

quiet-most : (limit : ℕ) (table : TableName) (entries : ℕ) → Quiet (at_most limit table entries)
quiet-most limit table entries = quiet-test (nat_le entries limit) tt (Limit (record { table = table; entry = limit + 1 })) refl

pub quiet-limits : (text : LayoutText) → Quiet (limits_of text)
unfolding limits_of
quiet-limits text =
    let R : Unit {0} → Read (Unit {0}) = λ _. all_within route_limit named.Route text.routes in
    let D : Unit {0} → Read (Unit {0}) = λ _. all_within detector_limit named.Detector text.detectors >>= R in
    let S : Unit {0} → Read (Unit {0}) = λ _. at_most 32 named.Signal (length text.signals) >>= D in
    let B : Unit {0} → Read (Unit {0}) = λ _. at_most 16 named.Border (length text.borders) >>= S in
    let P : Unit {0} → Read (Unit {0}) = λ _. at_most 32 named.Point (length text.points) >>= B in
    let T : Unit {0} → Read (Unit {0}) = λ _. at_most 128 named.Track (length text.tracks) >>= P in
    quiet-then (at_most 64 named.Section (length text.sections)) T (quiet-most 64 named.Section (length text.sections)) (λ _.
    quiet-then (at_most 128 named.Track (length text.tracks)) P (quiet-most 128 named.Track (length text.tracks)) (λ _.
    quiet-then (at_most 32 named.Point (length text.points)) B (quiet-most 32 named.Point (length text.points)) (λ _.
    quiet-then (at_most 16 named.Border (length text.borders)) S (quiet-most 16 named.Border (length text.borders)) (λ _.
    quiet-then (at_most 32 named.Signal (length text.signals)) D (quiet-most 32 named.Signal (length text.signals)) (λ _.
    quiet-then (all_within detector_limit named.Detector text.detectors) R
    (quiet-within detector_limit named.Detector text.detectors (λ place d. quiet-test (nat_le place.entry 16 && nat_le 1 (length d.sections) && nat_le (length d.sections) 16) tt (Limit place) refl)) (λ _.
    quiet-within route_limit named.Route text.routes (λ place r. quiet-test (nat_le place.entry 64 && nat_le (length r.path) 64) tt (Limit place) refl)))))))

-- ---- names, identities and sections that are noted

module _ {K : Type 0} (same : K → K → Bool) where
  quiet-key : (known : List (K × Place)) (key : K) (place : Place) → Quiet (note_key same double.Name known key place)
  quiet-key known key place = quiet-refused (is_some (lookup (same key) known)) (known ++ (key, place) ∷ []) (DoubleName place) refl

  quiet-keys : (table : TableName) (n : ℕ) (keys : List K) (known : List (K × Place)) → Quiet (note_each same double.Name table n keys known)
  unfolding note_each
  quiet-keys table n [] known = quiet-ok known
  quiet-keys table n (key ∷ keys) known =
      let place : Place = record { table = table; entry = n } in
      quiet-then (note_key same double.Name known key place) (λ more. note_each same double.Name table (suc n) keys more) (quiet-key known key place) (λ more. quiet-keys table (suc n) keys more)

  quiet-all : (place : Place) (keys : List K) (known : List (K × Place)) → Quiet (note_all same double.Name place keys known)
  unfolding note_all
  quiet-all place [] known = quiet-ok known
  quiet-all place (key ∷ keys) known =
      quiet-then (note_key same double.Name known key place) (λ more. note_all same double.Name place keys more) (quiet-key known key place) (λ more. quiet-all place keys more)

  quiet-lists : {A : Type 0} (keys_in : A → List K) (table : TableName) (n : ℕ) (xs : List A) (known : List (K × Place)) → Quiet (note_lists same double.Name keys_in table n xs known)
  unfolding note_lists
  quiet-lists keys_in table n [] known = quiet-ok known
  quiet-lists keys_in table n (x ∷ xs) known =
      let place : Place = record { table = table; entry = n } in
      quiet-then (note_all same double.Name place (keys_in x) known) (λ more. note_lists same double.Name keys_in table (suc n) xs more) (quiet-all place (keys_in x) known) (λ more. quiet-lists keys_in table (suc n) xs more)

module _ (text : LayoutText) where
  quiet-names : (table : TableName) (names : List (List ℕ)) (f : List (List ℕ × Place) → Read (List (List ℕ × Place))) (known : List (List ℕ × Place)) → ((more : List (List ℕ × Place)) → Quiet (f more)) → Quiet (note_each same_name double.Name table 1 names known >>= f)
  quiet-names table names f known next = quiet-then (note_each same_name double.Name table 1 names known) f (quiet-keys same_name table 1 names known) next

  quiet-ground : Quiet (ground_of text)
  unfolding ground_of
  quiet-ground =
      let station : Place = record { table = named.Station; entry = 1 } in
      quiet-then (note_key same_name double.Name [] text.station.name station) _ (quiet-key same_name [] text.station.name station) (λ a.
      quiet-names named.Section text.sections _ a (λ b.
      quiet-names named.Track (map (λ t. t.name) text.tracks) _ b (λ c.
      quiet-names named.Point (map (λ p. p.name) text.points) _ c (λ d.
      quiet-keys same_name named.Border 1 text.borders d))))

  pub quiet-directory : Quiet (directory_of text)
  unfolding directory_of
  quiet-directory =
      quiet-then (ground_of text) _ quiet-ground (λ a.
      quiet-names named.Signal (map (λ s. s.name) text.signals) _ a (λ b.
      quiet-names named.Detector (map (λ d. d.name) text.detectors) _ b (λ c.
      quiet-keys same_name named.Route 1 (map (λ r. r.name) text.routes) c)))

  pub quiet-ids : Quiet (ids_of text)
  unfolding ids_of
  quiet-ids =
      let station : Place = record { table = named.Station; entry = 1 } in
      quiet-then (note_key same_id double.Name [] text.station.id station) _ (quiet-key same_id [] text.station.id station) (λ a.
      quiet-then (note_each same_id double.Name named.Point 1 (map (λ p. p.id) text.points) a) _ (quiet-keys same_id named.Point 1 (map (λ p. p.id) text.points) a) (λ b.
      quiet-then (note_each same_id double.Name named.Signal 1 (map (λ s. s.id) text.signals) b) _ (quiet-keys same_id named.Signal 1 (map (λ s. s.id) text.signals) b) (λ c.
      quiet-keys same_id named.Detector 1 (map (λ d. d.id) text.detectors) c)))

  pub quiet-reported : Quiet (reported_of text.detectors)
  unfolding reported_of
  quiet-reported = quiet-lists same_name sections_reported named.Detector 1 text.detectors []
