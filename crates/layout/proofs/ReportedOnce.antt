-- Each section of a layout is reported once.
use Rattle.std.proofs.Common.{◌≡◌, ℕ, zero, suc, ◌<◌, Bool, true, false, cond, List, [], ◌∷◌, ◌++◌, length, get_or, All, Contains, slice_get, flat_map, Some, is_some, Ok, refl, sym, subst, ◌∙◌, arith}
use Rattle.std.proofs.lemmas.Bool.{false≢true}
use Rattle.std.proofs.lemmas.Option.{slice_get_within, slice_get-get_or}
use Rattle.std.proofs.lemmas.Slice.Eq.{bytes_eq-Decides}
use Rattle.std.proofs.lemmas.List.Kept.{AllPairs-cons}
use Rattle.std.specs.Map.{lookup, keys_of}
use Rattle.std.proofs.lemmas.Option.{same_Some}
use Rattle.sci_telegram.specs.Names.{name_field}
use Rattle.layout_text.specs.declared.fault.LayoutFault.TheVariants.{UnknownName}
use Rattle.layout_text.specs.declared.fault.Place.{Place}
use Rattle.layout_text.specs.declared.fault.TableName.{TableName}
use Rattle.layout_text.specs.declared.fault.TableName.TheVariants as named
use Rattle.layout.specs.declared.known.Double.TheVariants as double
use Rattle.layout.specs.declared.ids.SectionId.{SectionId}
use Rattle.layout.specs.Entries.{DetectorEntry}
use Rattle.layout_text.specs.Written.{DetectorText, LayoutText}
use Rattle.layout_text.specs.FirstFault.{each_of, all_of}
use Rattle.layout.specs.Known.{same_name}
use Rattle.layout_text.specs.Limits.{all_within}
use Rattle.layout.specs.Doubles.{sections_reported, reported_of}
use Rattle.layout.specs.NamesResolved.{number_named, section_named, detector_entry, section_reported}
use Rattle.layout.specs.Once.{Distinct}
use Rattle.layout.proofs.OnceLemmas.{came_from, same_ok, Apart, lists_once, nothing_twice}
use Rattle.layout.proofs.Steps.{passed, each-held}
use Rattle.layout.proofs.Directory.{IsPlaced, IsEntry, number-is}

same_by : (a b k : List ℕ) → same_name a k ≡ true → same_name b k ≡ true → same_name a b ≡ true
same_by a b k h g =
    let e = (bytes_eq-Decides (name_field a) (name_field k)).0 h in
    let f = (bytes_eq-Decides (name_field b) (name_field k)).0 g in
    (bytes_eq-Decides (name_field a) (name_field b)).1 (e ∙ sym f)

same_turned : (a b : List ℕ) → same_name a b ≡ true → same_name b a ≡ true
same_turned a b h = (bytes_eq-Decides (name_field b) (name_field a)).1 (sym ((bytes_eq-Decides (name_field a) (name_field b)).0 h))

-- ---- members

here : {A : Type 0} (x : A) (xs : List A) → Contains (x ∷ xs) x
here x xs = (0, omega arith, refl)

there : {A : Type 0} (x y : A) (xs : List A) → Contains xs y → Contains (x ∷ xs) y
there x y xs (k, lt, at) = (suc k, omega (arith, lt), at)

-- the section of this number has this name
abbrev IsSection : LayoutText → List ℕ → SectionId → Type 0
IsSection text name s = IsEntry text named.Section name s.0

-- sections by their names, one after the other
abbrev pub AreSections : LayoutText → List (List ℕ) → List SectionId → Type 0
AreSections text [] [] = Unit {0}
AreSections text (n ∷ ns) (s ∷ ss) = IsSection text n s × AreSections text ns ss
AreSections text [] (s ∷ ss) = ⊥
AreSections text (n ∷ ns) [] = ⊥

module _ (text : LayoutText) where
  sections-append : (ns ms : List (List ℕ)) (ss ts : List SectionId) → AreSections text ns ss → AreSections text ms ts → AreSections text (ns ++ ms) (ss ++ ts)
  sections-append [] ms [] ts h k = k
  sections-append (n ∷ ns) ms (s ∷ ss) ts h k = (h.0, sections-append ns ms ss ts h.1 k)
  sections-append [] ms (s ∷ ss) ts h k = absurd h
  sections-append (n ∷ ns) ms [] ts h k = absurd h

  name-of : (ns : List (List ℕ)) (ss : List SectionId) → AreSections text ns ss → (k : ℕ) (d : SectionId) → k < length ss → (n : List ℕ) × Contains ns n × IsSection text n (get_or ss k d)
  name-of [] [] h k d lt = absurd (omega (arith, lt))
  name-of (n ∷ ns) (s ∷ ss) h zero d lt = (n, here n ns, h.0)
  name-of (n ∷ ns) (s ∷ ss) h (suc k) d lt = let later = name-of ns ss h.1 k d (omega (arith, lt)) in (later.0, there n later.0 ns later.1, later.2)
  name-of [] (s ∷ ss) h k d lt = absurd h
  name-of (n ∷ ns) [] h k d lt = absurd h

  section-of : (ns : List (List ℕ)) (ss : List SectionId) → AreSections text ns ss → (k : ℕ) (d : List ℕ) → k < length ns → (s : SectionId) × Contains ss s × IsSection text (get_or ns k d) s
  section-of [] [] h k d lt = absurd (omega (arith, lt))
  section-of (n ∷ ns) (s ∷ ss) h zero d lt = (s, here s ss, h.0)
  section-of (n ∷ ns) (s ∷ ss) h (suc k) d lt = let later = section-of ns ss h.1 k d (omega (arith, lt)) in (later.0, there s later.0 ss later.1, later.2)
  section-of [] (s ∷ ss) h k d lt = absurd h
  section-of (n ∷ ns) [] h k d lt = absurd h

  -- two names of one section are the same
  one-name : (n m : List ℕ) (s : SectionId) → IsSection text n s → IsSection text m s → same_name m n ≡ true
  one-name n m s h g =
      let k : g.0 ≡ h.0 = same_Some g.0 h.0 (sym g.2 ∙ h.2) in
      same_by m n h.0 (subst (λ x. same_name m x ≡ true) k g.1) h.1

  -- no section is reported twice
  pub sections-distinct : (ns : List (List ℕ)) (ss : List SectionId) → Apart same_name ns → AreSections text ns ss → Distinct ss
  sections-distinct [] [] apart h = λ i j d ij lt. absurd (omega (arith, lt))
  sections-distinct (n ∷ ns) (s ∷ ss) apart h =
      let head : All (λ t. s ≡ t → ⊥) ss = λ k d lt e.
      let other = name-of ns ss h.1 k d lt in
      let same = one-name n other.0 s h.0 (subst (IsSection text other.0) (sym e) other.2) in
      let m = other.1.0 in
      let within = other.1.1 in
      let differ : same_name (get_or ns m other.0) n ≡ false = apart 0 (suc m) other.0 (omega arith) (omega (arith, within)) in
      false≢true (sym (subst (λ x. same_name x n ≡ false) other.1.2 differ) ∙ same) in
      AllPairs-cons (λ s t. s ≡ t → ⊥) s ss head (sections-distinct ns ss (λ i j d ij lt. apart (suc i) (suc j) d (omega (arith, ij)) (omega (arith, lt))) h.1)
  sections-distinct [] (s ∷ ss) apart h = absurd h
  sections-distinct (n ∷ ns) [] apart h = absurd h

  -- sections that have one name are one
  pub one-section : Apart same_name text.sections → (i j : ℕ) (a b : List ℕ) → slice_get text.sections i ≡ Some a → slice_get text.sections j ≡ Some b → same_name a b ≡ true → i ≡ j
  one-section apart i j a b at also same =
      let li = slice_get_within text.sections i a at in
      let lj = slice_get_within text.sections j b also in
      let is : get_or text.sections i a ≡ a = same_Some (get_or text.sections i a) a (sym (slice_get-get_or text.sections i a li) ∙ at) in
      let js : get_or text.sections j a ≡ b = same_Some (get_or text.sections j a) b (sym (slice_get-get_or text.sections j a lj) ∙ also) in
      let low : (i < j) → ⊥ = λ lt. false≢true (sym (subst (λ x. same_name x a ≡ false) js (subst (λ x. same_name (get_or text.sections j a) x ≡ false) is (apart i j a lt lj))) ∙ same_turned a b same) in
      let high : (j < i) → ⊥ = λ lt. false≢true (sym (subst (λ x. same_name a x ≡ false) js (subst (λ x. same_name x (get_or text.sections j a) ≡ false) is (apart j i a lt li))) ∙ same) in
      omega (arith, low, high)

  module _ (directory : List (List ℕ × Place)) (placed : All (IsPlaced text) directory) where
    named-is : (place : Place) (name : List ℕ) (s : SectionId) → section_named directory place name ≡ Ok s → IsSection text name s
    unfolding section_named
    named-is place name s h =
        let number = came_from (number_named directory place named.Section name) (λ n. Ok (record { 0 = n })) s h in
        let id : SectionId = record { 0 = number.0 } in
        subst (IsSection text name) (same_ok id s number.2) (number-is text directory placed place named.Section name number.0 number.1)

    all-named : (place : Place) (names : List (List ℕ)) (ss : List SectionId) → all_of (section_named directory place) names ≡ Ok ss → AreSections text names ss
    unfolding all_of
    all-named place [] ss h = subst (AreSections text []) (same_ok [] ss h) tt
    all-named place (n ∷ ns) ss h =
        let first = came_from (section_named directory place n) _ ss h in
        let rest = came_from (all_of (section_named directory place) ns) (λ rest. Ok (first.0 ∷ rest)) ss first.2 in
        subst (AreSections text (n ∷ ns)) (same_ok (first.0 ∷ rest.0) ss rest.2) (named-is place n first.0 first.1, all-named place ns rest.0 rest.1)

    detector-named : (place : Place) (x : DetectorText) (y : DetectorEntry) → detector_entry directory place x ≡ Ok y → AreSections text x.sections y.sections
    unfolding detector_entry
    detector-named place x y h =
        let sections = came_from (all_of (section_named directory place) x.sections) (λ ss. Ok (record { name = x.name; id = x.id; sections = ss })) y h in
        let made : DetectorEntry = record { name = x.name; id = x.id; sections = sections.0 } in
        subst (λ d. AreSections text x.sections d.sections) (same_ok made y sections.2) (all-named place x.sections sections.0 sections.1)

    pub detectors-named : (table : TableName) (n : ℕ) (xs : List DetectorText) (ys : List DetectorEntry) → each_of (detector_entry directory) table n xs ≡ Ok ys → AreSections text (flat_map sections_reported xs) (flat_map (λ d. d.sections) ys)
    unfolding each_of
    detectors-named table n [] ys h = subst (λ ys. AreSections text [] (flat_map (λ d. d.sections) ys)) (same_ok [] ys h) tt
    detectors-named table n (x ∷ xs) ys h =
        let place : Place = record { table = table; entry = n } in
        let first = came_from (detector_entry directory place x) _ ys h in
        let rest = came_from (each_of (detector_entry directory) table (suc n) xs) (λ rest. Ok (first.0 ∷ rest)) ys first.2 in
        subst (λ ys. AreSections text (flat_map sections_reported (x ∷ xs)) (flat_map (λ d. d.sections) ys)) (same_ok (first.0 ∷ rest.0) ys rest.2)
        (sections-append x.sections (flat_map sections_reported xs) first.0.sections (flat_map (λ d. d.sections) rest.0) (detector-named place x first.0 first.1) (detectors-named table (suc n) xs rest.0 rest.1))

-- what is reported, by name
pub reported-apart : (text : LayoutText) (known : List (List ℕ × Place)) → reported_of text.detectors ≡ Ok known → (keys_of known ≡ flat_map sections_reported text.detectors) × Apart same_name (keys_of known)
unfolding reported_of
reported-apart text known h = lists_once same_name sections_reported double.Name named.Detector 1 text.detectors [] known h (nothing_twice same_name)

-- a look-up that found something found a key that passes
found_key : {K X : Type 0} (b : Bool) (test : K → Bool) (e : K × X) (es : List (K × X)) → b ≡ test e.0 → is_some (cond b (Some e.1) (lookup test es)) ≡ true → (is_some (lookup test es) ≡ true → (k : K) × Contains (keys_of es) k × (test k ≡ true))
    → (k : K) × Contains (keys_of (e ∷ es)) k × (test k ≡ true)
found_key true test e es h found later = (e.0, here e.0 (keys_of es), sym h)
found_key false test e es h found later = let k = later found in (k.0, there e.0 k.0 (keys_of es) k.1, k.2)

pub look-key : {K X : Type 0} (test : K → Bool) (es : List (K × X)) → is_some (lookup test es) ≡ true → (k : K) × Contains (keys_of es) k × (test k ≡ true)
look-key test [] h = absurd (false≢true h)
look-key test (e ∷ es) h = found_key (test e.0) test e es refl h (look-key test es)

-- every section is reported
pub each-reported : (text : LayoutText) (known : List (List ℕ × Place)) (ss : List SectionId) → keys_of known ≡ flat_map sections_reported text.detectors → Apart same_name text.sections
    → all_within (section_reported known) named.Section text.sections ≡ Ok tt → AreSections text (flat_map sections_reported text.detectors) ss → (s : SectionId) → s.0 < length text.sections → Contains ss s
each-reported text known ss keys apart h are s lt =
    let each = came_from (each_of (section_reported known) named.Section 1 text.sections) (λ _. Ok tt) tt h in
    let held = each-held (section_reported known) (λ name. is_some (lookup (same_name name) known) ≡ true) (λ place name u e. (passed (is_some (lookup (same_name name) known)) (UnknownName place) tt u e).0) named.Section 1 text.sections each.0 each.1 in
    let name = get_or text.sections s.0 [] in
    let at = slice_get-get_or text.sections s.0 [] lt in
    let found = look-key (same_name name) known (held s.0 [] lt) in
    let on : Contains (flat_map sections_reported text.detectors) found.0 = subst (λ ks. Contains ks found.0) keys found.1 in
    let is = section-of text (flat_map sections_reported text.detectors) ss are on.0 found.0 on.1 in
    let mine : IsSection text found.0 is.0 = subst (λ n. IsSection text n is.0) on.2 is.2 in
    let same = same_by name mine.0 found.0 found.2 (same_turned found.0 mine.0 mine.1) in
    let number : s.0 ≡ is.0.0 = one-section text apart s.0 is.0.0 name mine.0 at mine.2 same in
    let id : is.0 ≡ s = λ i. record { 0 = (sym number) i } in
    subst (Contains ss) id is.1
