-- The directory is all names that a text writes, and leads from a name to the entry that has it.
use Rattle.std.proofs.Common.{◌≡◌, ℕ, suc, Bool, true, false, cond, List, [], ◌∷◌, ◌++◌, map, Contains, Option, Some, None, is_some, Result, Ok, Err, if◌then◌else◌, refl, sym, ap, subst, ◌∙◌, ⊎_elim, append_assoc, arith, rules}
use Rattle.std.proofs.lemmas.Bool.{false≢true}
use Rattle.std.proofs.lemmas.List.{append-nil}
use Rattle.std.proofs.lemmas.List.Elements.{Contains-push_cases}
use Rattle.std.proofs.lemmas.Slice.Eq.{bytes_eq-Decides}
use Rattle.std.specs.Map.{lookup}
use Rattle.std.proofs.lemmas.Option.{same_Some}
use Rattle.sci_telegram.specs.Names.{name_field}
use Rattle.layout_text.specs.declared.fault.LayoutFault.{LayoutFault}
use Rattle.layout_text.specs.declared.fault.LayoutFault.TheVariants.{DoubleName}
use Rattle.layout_text.specs.declared.fault.Place.{Place}
use Rattle.layout_text.specs.declared.fault.TableName.{TableName}
use Rattle.layout_text.specs.declared.fault.TableName.TheVariants as named
use Rattle.layout.specs.declared.known.Double.TheVariants as double
use Rattle.layout_text.specs.Written.{LayoutText}
use Rattle.layout_text.specs.FirstFault.{◌>>=◌}
use Rattle.layout.specs.Known.{same_name, note_key, note_each, note_all, note_lists}
use Rattle.layout.specs.Doubles.{sections_reported, ground_of, directory_of, reported_of}
use Rattle.layout.specs.Faults.{numbered, all_at, listed, names_written, sections_written}
use Rattle.layout.proofs.Stepwise.{same_ok, came_from}

abbrev Names : Type 0
Names = List (List ℕ × Place)

-- ---- what a look-up finds

here : {A : Type 0} (x : A) (xs : List A) → Contains (x ∷ xs) x
here x xs = (0, omega arith, refl)

there : {A : Type 0} (x y : A) (xs : List A) → Contains xs y → Contains (x ∷ xs) y
there x y xs (k, lt, at) = (suc k, omega (arith, lt), at)

module _ {K : Type 0} (test : K → Bool) where
  found_if : (b : Bool) (e : K × Place) (es : List (K × Place)) (v : Place) → test e.0 ≡ b → cond b (Some e.1) (lookup test es) ≡ Some v
      → (lookup test es ≡ Some v → (k : K) × Contains es (k, v) × (test k ≡ true)) → (k : K) × Contains (e ∷ es) (k, v) × (test k ≡ true)
  found_if true e es v t h later = (e.0, subst (λ w. Contains (e ∷ es) (e.0, w)) (same_Some e.1 v h) (here e es), t)
  found_if false e es v t h later = let k = later h in (k.0, there e (k.0, v) es k.1, k.2)

  pub look-found : (es : List (K × Place)) (v : Place) → lookup test es ≡ Some v → (k : K) × Contains es (k, v) × (test k ≡ true)
  look-found [] v h = search rules
  look-found (e ∷ es) v h = found_if (test e.0) e es v refl h (look-found es v)

  left_if : (b : Bool) (e : K × Place) (es fs : List (K × Place)) (v : Place) → cond b (Some e.1) (lookup test es) ≡ Some v
      → (lookup test es ≡ Some v → lookup test (es ++ fs) ≡ Some v) → cond b (Some e.1) (lookup test (es ++ fs)) ≡ Some v
  left_if true e es fs v h later = h
  left_if false e es fs v h later = later h

  look-left : (es fs : List (K × Place)) (v : Place) → lookup test es ≡ Some v → lookup test (es ++ fs) ≡ Some v
  look-left [] fs v h = search rules
  look-left (e ∷ es) fs v h = left_if (test e.0) e es fs v h (look-left es fs v)

  right_if : (b : Bool) (e : K × Place) (es fs : List (K × Place)) → cond b (Some e.1) (lookup test es) ≡ None
      → (lookup test es ≡ None → lookup test (es ++ fs) ≡ lookup test fs) → cond b (Some e.1) (lookup test (es ++ fs)) ≡ lookup test fs
  right_if true e es fs h later = search rules
  right_if false e es fs h later = later h

  look-right : (es fs : List (K × Place)) → lookup test es ≡ None → lookup test (es ++ fs) ≡ lookup test fs
  look-right [] fs h = refl
  look-right (e ∷ es) fs h = right_if (test e.0) e es fs h (look-right es fs)

-- ---- each entry is found by its name

abbrev pub Leads : List (List ℕ × Place) → Type 0
Leads es = (name : List ℕ) (e : List ℕ × Place) → Contains es e → same_name name e.0 ≡ true → lookup (same_name name) es ≡ Some e.1

same_through : (name a b : List ℕ) → same_name name a ≡ true → same_name name b ≡ true → same_name a b ≡ true
same_through name a b h k = (bytes_eq-Decides (name_field a) (name_field b)).1 (sym ((bytes_eq-Decides (name_field name) (name_field a)).0 h) ∙ (bytes_eq-Decides (name_field name) (name_field b)).0 k)

module _ (known : Names) (key : List ℕ) (place : Place) (new : lookup (same_name key) known ≡ None) (leads : Leads known) where
  not-before : (name : List ℕ) (o : Option Place) → same_name name key ≡ true → lookup (same_name name) known ≡ o → lookup (same_name name) known ≡ None
  not-before name None mine h = h
  not-before name (Some v) mine h =
      let k = look-found (same_name name) known v h in
      let again : None ≡ Some v = sym new ∙ leads key (k.0, v) k.1 (same_through name key k.0 mine k.2) in
      search (rules, again)

  leads-push : Leads (known ++ (key, place) ∷ [])
  leads-push name e has same = ⊎_elim
      (λ before. look-left (same_name name) known ((key, place) ∷ []) e.1 (leads name e before same))
      (λ is. let mine : same_name name key ≡ true = subst (λ x. same_name name x.0 ≡ true) (sym is) same in
      look-right (same_name name) known ((key, place) ∷ []) (not-before name (lookup (same_name name) known) mine refl)
      ∙ (ap (λ b. cond b (Some place) None) mine ∙ ap (λ x. Some x.1) is))
      (Contains-push_cases known (key, place) e has)

-- ---- names that are noted

-- These were noted after the known ones.
pub record Noted (known : List (List ℕ × Place)) (es : List (List ℕ × Place)) (more : List (List ℕ × Place)) : Type 0 where
  pub same : more ≡ known ++ es
  pub leads : Leads known → Leads more

noted-none : (known more : Names) → ◌≡◌ {A = Result Names LayoutFault} (Ok known) (Ok more) → Noted known [] more
noted-none known more h = let is = same_ok known more h in record { same = sym is ∙ sym (append-nil known); leads = subst Leads is }

noted-then : (es fs known some more : Names) → Noted known es some → Noted some fs more → Noted known (es ++ fs) more
noted-then es fs known some more first next = record {
  same = next.same ∙ (ap (λ xs. xs ++ fs) first.same ∙ append_assoc known es fs);
  leads = λ h. next.leads (first.leads h);
}

nothing : (o : Option Place) → is_some o ≡ false → o ≡ None
nothing None h = refl
nothing (Some x) h = absurd (false≢true (sym h))

key-noted : (known : Names) (key : List ℕ) (place : Place) (more : Names) → note_key same_name double.Name known key place ≡ Ok more → Noted known ((key, place) ∷ []) more
key-noted known key place more h = by_test (is_some (lookup (same_name key) known)) refl h
  where
    by_test : (b : Bool) → is_some (lookup (same_name key) known) ≡ b → ◌≡◌ {A = Result Names LayoutFault} (if b then Err (DoubleName place) else Ok (known ++ (key, place) ∷ [])) (Ok more) → Noted known ((key, place) ∷ []) more
    by_test true t k = search rules
    by_test false t k =
        let is = same_ok (known ++ (key, place) ∷ []) more k in
        record { same = sym is; leads = λ leads. subst Leads is (leads-push known key place (nothing (lookup (same_name key) known) t) leads) }

each-noted : (table : TableName) (n : ℕ) (keys : List (List ℕ)) (known more : Names) → note_each same_name double.Name table n keys known ≡ Ok more → Noted known (numbered table n keys) more
unfolding note_each
each-noted table n [] known more h = noted-none known more h
each-noted table n (key ∷ keys) known more h =
    let place : Place = record { table = table; entry = n } in
    let first = came_from (note_key same_name double.Name known key place) (λ m. note_each same_name double.Name table (suc n) keys m) more h in
    noted-then ((key, place) ∷ []) (numbered table (suc n) keys) known first.0 more (key-noted known key place first.0 first.1) (each-noted table (suc n) keys first.0 more first.2)

all-noted : (place : Place) (keys : List (List ℕ)) (known more : Names) → note_all same_name double.Name place keys known ≡ Ok more → Noted known (all_at place keys) more
unfolding note_all
all-noted place [] known more h = noted-none known more h
all-noted place (key ∷ keys) known more h =
    let first = came_from (note_key same_name double.Name known key place) (λ m. note_all same_name double.Name place keys m) more h in
    noted-then ((key, place) ∷ []) (all_at place keys) known first.0 more (key-noted known key place first.0 first.1) (all-noted place keys first.0 more first.2)

lists-noted : {A : Type 0} (keys_in : A → List (List ℕ)) (table : TableName) (n : ℕ) (xs : List A) (known more : Names) → note_lists same_name double.Name keys_in table n xs known ≡ Ok more → Noted known (listed keys_in table n xs) more
unfolding note_lists
lists-noted keys_in table n [] known more h = noted-none known more h
lists-noted keys_in table n (x ∷ xs) known more h =
    let place : Place = record { table = table; entry = n } in
    let first = came_from (note_all same_name double.Name place (keys_in x) known) (λ m. note_lists same_name double.Name keys_in table (suc n) xs m) more h in
    noted-then (all_at place (keys_in x)) (listed keys_in table (suc n) xs) known first.0 more (all-noted place (keys_in x) known first.0 first.1) (lists-noted keys_in table (suc n) xs first.0 more first.2)

leads-none : Leads []
leads-none name e (k, lt, at) same = absurd (omega (arith, lt))

-- ---- the directory, and the sections that are reported

module _ (text : LayoutText) where
  directory-noted : (directory : Names) → directory_of text ≡ Ok directory → Noted [] (names_written text) directory
  unfolding directory_of ground_of names_written
  directory-noted directory h =
      let tracks = map (λ t. t.name) text.tracks in
      let points = map (λ p. p.name) text.points in
      let signals = map (λ s. s.name) text.signals in
      let detectors = map (λ d. d.name) text.detectors in
      let routes = map (λ r. r.name) text.routes in
      let station : Place = record { table = named.Station; entry = 1 } in
      let c6 = numbered named.Route 1 routes in
      let c5 = numbered named.Detector 1 detectors ++ c6 in
      let c4 = numbered named.Signal 1 signals ++ c5 in
      let c3 = numbered named.Border 1 text.borders ++ c4 in
      let c2 = numbered named.Point 1 points ++ c3 in
      let c1 = numbered named.Track 1 tracks ++ c2 in
      let c0 = numbered named.Section 1 text.sections ++ c1 in
      let ground = came_from (ground_of text) _ directory h in
      let signal = came_from (note_each same_name double.Name named.Signal 1 signals ground.0) _ directory ground.2 in
      let detector = came_from (note_each same_name double.Name named.Detector 1 detectors signal.0) _ directory signal.2 in
      let one = came_from (note_key same_name double.Name [] text.station.name station) (λ v0. note_each same_name double.Name named.Section 1 text.sections v0 >>= λ v1. note_each same_name double.Name named.Track 1 tracks v1 >>= λ v2. note_each same_name double.Name named.Point 1 points v2 >>= λ v3. note_each same_name double.Name named.Border 1 text.borders v3) ground.0 ground.1 in
      let section = came_from (note_each same_name double.Name named.Section 1 text.sections one.0) _ ground.0 one.2 in
      let track = came_from (note_each same_name double.Name named.Track 1 tracks section.0) _ ground.0 section.2 in
      let point = came_from (note_each same_name double.Name named.Point 1 points track.0) _ ground.0 track.2 in
      noted-then ((text.station.name, station) ∷ []) c0 [] one.0 directory (key-noted [] text.station.name station one.0 one.1)
      (noted-then (numbered named.Section 1 text.sections) c1 one.0 section.0 directory (each-noted named.Section 1 text.sections one.0 section.0 section.1)
      (noted-then (numbered named.Track 1 tracks) c2 section.0 track.0 directory (each-noted named.Track 1 tracks section.0 track.0 track.1)
      (noted-then (numbered named.Point 1 points) c3 track.0 point.0 directory (each-noted named.Point 1 points track.0 point.0 point.1)
      (noted-then (numbered named.Border 1 text.borders) c4 point.0 ground.0 directory (each-noted named.Border 1 text.borders point.0 ground.0 point.2)
      (noted-then (numbered named.Signal 1 signals) c5 ground.0 signal.0 directory (each-noted named.Signal 1 signals ground.0 signal.0 signal.1)
      (noted-then (numbered named.Detector 1 detectors) c6 signal.0 detector.0 directory (each-noted named.Detector 1 detectors signal.0 detector.0 detector.1)
      (each-noted named.Route 1 routes detector.0 directory detector.2)))))))

  pub directory-is : (directory : Names) → directory_of text ≡ Ok directory → (directory ≡ names_written text) × Leads directory
  directory-is directory h = let noted = directory-noted directory h in (noted.same, noted.leads leads-none)

  pub reported-is : (reported : Names) → reported_of text.detectors ≡ Ok reported → (reported ≡ sections_written text) × Leads reported
  unfolding reported_of
  reported-is reported h = let noted = lists-noted sections_reported named.Detector 1 text.detectors [] reported h in (noted.same, noted.leads leads-none)
