-- A layout's fault is the first of its text.
use Rattle.std.proofs.Common.{◌≡◌, ◌⊎◌, ℕ, suc, Bool, true, false, List, [], ◌∷◌, ◌++◌, map, is_some, Result, Ok, Err, if◌then◌else◌, IfErr, refl, sym, ap, subst, ◌∙◌, inl, inr, ⊎_elim, append_assoc, rules}
use Rattle.std.proofs.lemmas.List.{append-nil}
use Rattle.std.specs.Map.{lookup, keys_of}
use Rattle.toml.specs.Parse.{parse_document}
use Rattle.layout_text.specs.declared.fault.LayoutFault.{LayoutFault}
use Rattle.layout_text.specs.declared.fault.LayoutFault.TheVariants.{Toml, MissingKey, WrongKind, UnknownName, DoubleName, DoubleJoint, Limit, OutOfMemory}
use Rattle.layout_text.specs.declared.fault.Place.{Place}
use Rattle.layout_text.specs.declared.fault.TableName.{TableName}
use Rattle.layout_text.specs.declared.fault.TableName.TheVariants as named
use Rattle.layout.specs.declared.known.Double.{Double}
use Rattle.layout.specs.declared.known.Double.TheVariants as double
use Rattle.layout.specs.Entries.{Site}
use Rattle.layout_text.specs.Written.{LayoutText}
use Rattle.layout_text.specs.FirstFault.{◌>>=◌, Fails, Gives}
use Rattle.layout_text.specs.Text.{text_of, document_of}
use Rattle.layout_text.specs.Limits.{limits_of, all_within}
use Rattle.layout.specs.Known.{same_name, same_port, double_fault, note_key, note_each, note_all, note_lists}
use Rattle.layout.specs.Doubles.{same_id, sections_reported, ports_joined, ground_of, directory_of, ids_of, reported_of, joined_of, signalled_of}
use Rattle.layout.specs.NamesResolved.{section_reported, site_of, names_of, entries_of, ports_once, layout_of, layout_in}
use Rattle.layout.specs.Faults.{numbered, all_at, listed, names_written, ids_written, sections_written, joints_written, signals_written, NoneTwice, IsFirstTwice, IsDoubleName, HasNothingTwice, IsDoubleJoint, written_in, IsFaultOf, IsFirstFault}
use Rattle.layout.proofs.ReportedOnce.{look-key}
use Rattle.layout.proofs.OnceLemmas.{came_from, read_as, same_ok, was_false, Apart, key_once, nothing_twice}

-- ---- steps

same_err : {A : Type 0} (e f : LayoutFault) → ◌≡◌ {A = Result A LayoutFault} (Err e) (Err f) → e ≡ f
same_err {A} e f h = let fault : Result A LayoutFault → LayoutFault = λ r. elim r [ Err g ↦ g | Ok x ↦ f ] in ap fault h

-- where steps together failed
failed_at : {A B : Type 0} (read : Result A LayoutFault) (f : A → Result B LayoutFault) (e : LayoutFault) → read >>= f ≡ Err e → (read ≡ Err e) ⊎ ((x : A) × (read ≡ Ok x) × (f x ≡ Err e))
failed_at (Ok x) f e h = inr (x, refl, h)
failed_at {A} {B} (Err g) f e h = inl (ap Err (same_err {A = B} g e h))

never : {A : Type 0} {P : Type 0} (x : A) (e : LayoutFault) → read_as x ≡ Err e → P
never x e h = search rules

bind_same : {A B : Type 0} (read : Result A LayoutFault) (f g : A → Result B LayoutFault) → ((x : A) → f x ≡ g x) → read >>= f ≡ read >>= g
bind_same (Ok x) f g h = h x
bind_same (Err e) f g h = refl

bind_assoc : {A B C : Type 0} (read : Result A LayoutFault) (f : A → Result B LayoutFault) (g : B → Result C LayoutFault) → (read >>= f) >>= g ≡ read >>= (λ x. f x >>= g)
bind_assoc (Ok x) f g = refl
bind_assoc (Err e) f g = refl

-- ---- keys with their places, noted one after the other

module _ {K : Type 0} (same : K → K → Bool) (twice : Double) where
  unfoldable pub note_pairs : List (K × Place) → List (K × Place) → Result (List (K × Place)) LayoutFault
  note_pairs [] known = Ok known
  note_pairs (e ∷ es) known = note_key same twice known e.0 e.1 >>= λ more. note_pairs es more

  pairs-append : (xs ys known : List (K × Place)) → note_pairs (xs ++ ys) known ≡ note_pairs xs known >>= λ more. note_pairs ys more
  unfolding note_pairs
  pairs-append [] ys known = refl
  pairs-append (x ∷ xs) ys known =
      bind_same (note_key same twice known x.0 x.1) (λ more. note_pairs (xs ++ ys) more) (λ more. note_pairs xs more >>= λ m. note_pairs ys m) (λ more. pairs-append xs ys more)
      ∙ sym (bind_assoc (note_key same twice known x.0 x.1) (λ more. note_pairs xs more) (λ m. note_pairs ys m))

  each-pairs : (table : TableName) (n : ℕ) (keys : List K) (known : List (K × Place)) → note_each same twice table n keys known ≡ note_pairs (numbered table n keys) known
  unfolding note_each note_pairs
  each-pairs table n [] known = refl
  each-pairs table n (key ∷ keys) known =
      let place : Place = record { table = table; entry = n } in
      bind_same (note_key same twice known key place) (λ more. note_each same twice table (suc n) keys more) (λ more. note_pairs (numbered table (suc n) keys) more) (λ more. each-pairs table (suc n) keys more)

  all-pairs : (place : Place) (keys : List K) (known : List (K × Place)) → note_all same twice place keys known ≡ note_pairs (all_at place keys) known
  unfolding note_all note_pairs
  all-pairs place [] known = refl
  all-pairs place (key ∷ keys) known =
      bind_same (note_key same twice known key place) (λ more. note_all same twice place keys more) (λ more. note_pairs (all_at place keys) more) (λ more. all-pairs place keys more)

  lists-pairs : {A : Type 0} (keys_in : A → List K) (table : TableName) (n : ℕ) (xs : List A) (known : List (K × Place)) → note_lists same twice keys_in table n xs known ≡ note_pairs (listed keys_in table n xs) known
  unfolding note_lists note_pairs
  lists-pairs keys_in table n [] known = refl
  lists-pairs keys_in table n (x ∷ xs) known =
      let place : Place = record { table = table; entry = n } in
      let rest = listed keys_in table (suc n) xs in
      bind_same (note_all same twice place (keys_in x) known) (λ more. note_lists same twice keys_in table (suc n) xs more) (λ more. note_pairs rest more) (λ more. lists-pairs keys_in table (suc n) xs more)
      ∙ (ap (λ read. read >>= λ more. note_pairs rest more) (all-pairs place (keys_in x) known) ∙ sym (pairs-append (all_at place (keys_in x)) rest known))

  -- a table and what follows it
  then-pairs : (table : TableName) (keys : List K) (rest known : List (K × Place)) → note_pairs (numbered table 1 keys ++ rest) known ≡ note_each same twice table 1 keys known >>= λ more. note_pairs rest more
  then-pairs table keys rest known = pairs-append (numbered table 1 keys) rest known ∙ ap (λ read. read >>= λ more. note_pairs rest more) (sym (each-pairs table 1 keys known))

  chain : (table : TableName) (keys : List K) (rest known : List (K × Place)) (F : List (K × Place) → Result (List (K × Place)) LayoutFault) → ((more : List (K × Place)) → note_pairs rest more ≡ F more)
      → note_pairs (numbered table 1 keys ++ rest) known ≡ note_each same twice table 1 keys known >>= F
  chain table keys rest known F next = then-pairs table keys rest known ∙ bind_same (note_each same twice table 1 keys known) (λ more. note_pairs rest more) F next

  key-fails : (known : List (K × Place)) (key : K) (place : Place) (f : LayoutFault) → note_key same twice known key place ≡ Err f → (is_some (lookup (same key) known) ≡ true) × (double_fault twice place ≡ f)
  key-fails known key place f h = by_cases (is_some (lookup (same key) known)) h
    where
      by_cases : (b : Bool) → ◌≡◌ {A = Result (List (K × Place)) LayoutFault} (if b then Err (double_fault twice place) else Ok (known ++ (key, place) ∷ [])) (Err f) → (b ≡ true) × (double_fault twice place ≡ f)
      by_cases true e = (refl, same_err {A = List (K × Place)} (double_fault twice place) f e)
      by_cases false e = never (known ++ (key, place) ∷ []) f e

  pub pairs-ok : (es known more : List (K × Place)) → note_pairs es known ≡ Ok more → Apart same (keys_of known) → (more ≡ known ++ es) × Apart same (keys_of more)
  unfolding note_pairs
  pairs-ok [] known more h once =
      let e : known ≡ more = same_ok known more h in
      (sym e ∙ sym (append-nil known), subst (λ ks. Apart same (keys_of ks)) e once)
  pairs-ok (e ∷ es) known more h once =
      let first = came_from (note_key same twice known e.0 e.1) (λ m. note_pairs es m) more h in
      let noted = key_once same twice known e.0 e.1 first.0 first.1 once in
      let new = was_false (is_some (lookup (same e.0) known)) _ (known ++ (e.0, e.1) ∷ []) first.0 first.1 in
      let rest = pairs-ok es first.0 more first.2 noted.1 in
      (rest.0 ∙ (ap (λ ks. ks ++ es) (sym new.1) ∙ append_assoc known ((e.0, e.1) ∷ []) es), rest.1)

  pub pairs-err : (es known : List (K × Place)) (f : LayoutFault) → note_pairs es known ≡ Err f → Apart same (keys_of known) → (place : Place) × (f ≡ double_fault twice place) × IsFirstTwice same (known ++ es) place
  unfolding note_pairs
  pairs-err [] known f h once = never known f h
  pairs-err (e ∷ es) known f h once =
      let here : note_key same twice known e.0 e.1 ≡ Err f → (place : Place) × (f ≡ double_fault twice place) × IsFirstTwice same (known ++ e ∷ es) place = λ k.
      let is = key-fails known e.0 e.1 f k in
      (e.1, sym is.1, record { earlier = known; key = e.0; later = es; stands = refl; again = look-key (same e.0) known is.0; first = once }) in
      let next : ((m : List (K × Place)) × (note_key same twice known e.0 e.1 ≡ Ok m) × (note_pairs es m ≡ Err f)) → (place : Place) × (f ≡ double_fault twice place) × IsFirstTwice same (known ++ e ∷ es) place = λ m.
      let noted = key_once same twice known e.0 e.1 m.0 m.1 once in
      let new = was_false (is_some (lookup (same e.0) known)) _ (known ++ (e.0, e.1) ∷ []) m.0 m.1 in
      let rest = pairs-err es m.0 f m.2 noted.1 in
      let same_keys : m.0 ++ es ≡ known ++ e ∷ es = ap (λ ks. ks ++ es) (sym new.1) ∙ append_assoc known ((e.0, e.1) ∷ []) es in
      (rest.0, rest.1, subst (λ ks. IsFirstTwice same ks rest.0) same_keys rest.2) in
      ⊎_elim here next (failed_at (note_key same twice known e.0 e.1) (λ m. note_pairs es m) f h)

  -- from the start
  pub from-start : (es : List (K × Place)) (f : LayoutFault) → note_pairs es [] ≡ Err f → (place : Place) × (f ≡ double_fault twice place) × IsFirstTwice same es place
  from-start es f h = pairs-err es [] f h (nothing_twice same)

  pub all-once : (es more : List (K × Place)) → note_pairs es [] ≡ Ok more → NoneTwice same es
  all-once es more h = let is = pairs-ok es [] more h (nothing_twice same) in subst (λ ks. Apart same (keys_of ks)) is.0 is.1

-- ---- the names, identities, sections and ports of a layout

abbrev Names : Type 0
Names = List (List ℕ × Place)

directory-pairs : (text : LayoutText) → directory_of text ≡ note_pairs same_name double.Name (names_written text) []
unfolding directory_of ground_of names_written note_pairs
directory-pairs text =
    let start : Names = (text.station.name, record { table = named.Station; entry = 1 }) ∷ [] in
    let tracks = map (λ t. t.name) text.tracks in
    let points = map (λ p. p.name) text.points in
    let signals = map (λ s. s.name) text.signals in
    let detectors = map (λ d. d.name) text.detectors in
    let routes = map (λ r. r.name) text.routes in
    let R : Names → Result Names LayoutFault = λ m. note_each same_name double.Name named.Route 1 routes m in
    let D : Names → Result Names LayoutFault = λ m. note_each same_name double.Name named.Detector 1 detectors m >>= R in
    let K : Names → Result Names LayoutFault = λ m. note_each same_name double.Name named.Signal 1 signals m >>= D in
    let B : Names → Result Names LayoutFault = λ m. note_each same_name double.Name named.Border 1 text.borders m in
    let P : Names → Result Names LayoutFault = λ m. note_each same_name double.Name named.Point 1 points m >>= B in
    let T : Names → Result Names LayoutFault = λ m. note_each same_name double.Name named.Track 1 tracks m >>= P in
    let BK : Names → Result Names LayoutFault = λ m. B m >>= K in
    let PK : Names → Result Names LayoutFault = λ m. note_each same_name double.Name named.Point 1 points m >>= BK in
    let TK : Names → Result Names LayoutFault = λ m. note_each same_name double.Name named.Track 1 tracks m >>= PK in
    let flat : (note_each same_name double.Name named.Section 1 text.sections start >>= T) >>= K ≡ note_each same_name double.Name named.Section 1 text.sections start >>= TK =
    bind_assoc (note_each same_name double.Name named.Section 1 text.sections start) T K ∙ bind_same (note_each same_name double.Name named.Section 1 text.sections start) (λ m. T m >>= K) TK (λ m.
    bind_assoc (note_each same_name double.Name named.Track 1 tracks m) P K ∙ bind_same (note_each same_name double.Name named.Track 1 tracks m) (λ n. P n >>= K) PK (λ n.
    bind_assoc (note_each same_name double.Name named.Point 1 points n) B K)) in
    let c6 = numbered named.Route 1 routes in
    let c5 = numbered named.Detector 1 detectors ++ c6 in
    let c4 = numbered named.Signal 1 signals ++ c5 in
    let c3 = numbered named.Border 1 text.borders ++ c4 in
    let c2 = numbered named.Point 1 points ++ c3 in
    let c1 = numbered named.Track 1 tracks ++ c2 in
    let N = same_name in
    let n = double.Name in
    flat ∙ sym (chain N n named.Section text.sections c1 start TK (λ m.
    chain N n named.Track tracks c2 m PK (λ m.
    chain N n named.Point points c3 m BK (λ m.
    chain N n named.Border text.borders c4 m K (λ m.
    chain N n named.Signal signals c5 m D (λ m.
    chain N n named.Detector detectors c6 m R (λ m. sym (each-pairs N n named.Route 1 routes m))))))))

ids-pairs : (text : LayoutText) → ids_of text ≡ note_pairs same_id double.Name (ids_written text) []
unfolding ids_of ids_written note_pairs
ids-pairs text =
    let start : List (ℕ × Place) = (text.station.id, record { table = named.Station; entry = 1 }) ∷ [] in
    let points = map (λ p. p.id) text.points in
    let signals = map (λ s. s.id) text.signals in
    let detectors = map (λ d. d.id) text.detectors in
    let D : List (ℕ × Place) → Result (List (ℕ × Place)) LayoutFault = λ m. note_each same_id double.Name named.Detector 1 detectors m in
    let S : List (ℕ × Place) → Result (List (ℕ × Place)) LayoutFault = λ m. note_each same_id double.Name named.Signal 1 signals m >>= D in
    let c2 = numbered named.Detector 1 detectors in
    let c1 = numbered named.Signal 1 signals ++ c2 in
    sym (chain same_id double.Name named.Point points c1 start S (λ m.
    chain same_id double.Name named.Signal signals c2 m D (λ m. sym (each-pairs same_id double.Name named.Detector 1 detectors m))))

reported-pairs : (text : LayoutText) → reported_of text.detectors ≡ note_pairs same_name double.Name (sections_written text) []
unfolding reported_of
reported-pairs text = lists-pairs same_name double.Name sections_reported named.Detector 1 text.detectors []

joined-pairs : (l : Site) → joined_of l.joints ≡ note_pairs same_port double.Joint (joints_written l) []
unfolding joined_of
joined-pairs l = lists-pairs same_port double.Joint ports_joined named.Joint 1 l.joints []

signalled-pairs : (l : Site) → signalled_of l.signals ≡ note_pairs same_port double.Joint (signals_written l) []
unfolding signalled_of
signalled-pairs l = each-pairs same_port double.Joint named.Signal 1 (map (λ s. s.at) l.signals) []

joint-fault : (l : Site) (f : LayoutFault) → ports_once l ≡ Err f → IsDoubleJoint l f
unfolding ports_once
joint-fault l f h =
    ⊎_elim
    (λ e. let is = from-start same_port double.Joint (joints_written l) f (sym (joined-pairs l) ∙ e) in (is.0, is.1, inl is.2))
    (λ m. let once = all-once same_port double.Joint (joints_written l) m.0 (sym (joined-pairs l) ∙ m.1) in
    ⊎_elim
    (λ e. let is = from-start same_port double.Joint (signals_written l) f (sym (signalled-pairs l) ∙ e) in (is.0, is.1, inr (once, is.2)))
    (λ n. never tt f n.2)
    (failed_at (signalled_of l.signals) (λ _. Ok tt) f m.2))
    (failed_at (joined_of l.joints) (λ _. signalled_of l.signals >>= λ _. Ok tt) f h)

-- ---- what the text writes

module _ (text : LayoutText) (f : LayoutFault) where
  -- the tests of names come first
  names-fault : names_of text ≡ Err f → (limits_of text ≡ Err f) ⊎ ((limits_of text ≡ Ok tt) × IsDoubleName text f)
  unfolding names_of
  names-fault h =
      ⊎_elim
      (λ e. inl e)
      (λ m. inr (
        m.1,
        ⊎_elim
            (λ e. let is = from-start same_name double.Name (names_written text) f (sym (directory-pairs text) ∙ e) in (is.0, is.1, inl is.2))
            (λ d. let once = all-once same_name double.Name (names_written text) d.0 (sym (directory-pairs text) ∙ d.1) in
            ⊎_elim
            (λ e. let is = from-start same_id double.Name (ids_written text) f (sym (ids-pairs text) ∙ e) in (is.0, is.1, inr (once, inl is.2)))
            (λ i. never d.0 f i.2)
            (failed_at (ids_of text) (λ _. Ok d.0) f d.2))
            (failed_at (directory_of text) (λ directory. ids_of text >>= λ _. Ok directory) f m.2),
      ))
      (failed_at (limits_of text) (λ _. directory_of text >>= λ directory. ids_of text >>= λ _. Ok directory) f h)

  names-fine : (directory : Names) → names_of text ≡ Ok directory → (limits_of text ≡ Ok tt) × NoneTwice same_name (names_written text) × NoneTwice same_id (ids_written text)
  unfolding names_of
  names-fine directory h =
      let limits = came_from (limits_of text) (λ _. directory_of text >>= λ directory. ids_of text >>= λ _. Ok directory) directory h in
      let names = came_from (directory_of text) (λ directory. ids_of text >>= λ _. Ok directory) directory limits.2 in
      let ids = came_from (ids_of text) (λ _. Ok names.0) directory names.2 in
      (limits.1, all-once same_name double.Name (names_written text) names.0 (sym (directory-pairs text) ∙ names.1), all-once same_id double.Name (ids_written text) ids.0 (sym (ids-pairs text) ∙ ids.1))

  entries-fault : entries_of text ≡ Err f → IsFaultOf text f
  unfolding entries_of
  entries-fault h =
      ⊎_elim
      (λ e. ⊎_elim (λ limit. inl limit) (λ twice. inr (twice.0, inl twice.1)) (names-fault e))
      (λ n. let fine = names-fine n.0 n.1 in
      ⊎_elim
      (λ e. let is = from-start same_name double.Name (sections_written text) f (sym (reported-pairs text) ∙ e) in
      inr (fine.0, inl (is.0, is.1, inr (fine.1, inr (fine.2, is.2)))))
      (λ r. let sections = all-once same_name double.Name (sections_written text) r.0 (sym (reported-pairs text) ∙ r.1) in
      inr (fine.0, inr (record { names = fine.1; ids = fine.2; sections = sections }, inl h)))
      (failed_at (reported_of text.detectors) (λ reported. site_of n.0 text >>= λ site. all_within (section_reported reported) named.Section site.sections >>= λ _. Ok site) f n.2))
      (failed_at (names_of text) (λ directory. reported_of text.detectors >>= λ reported. site_of directory text >>= λ site. all_within (section_reported reported) named.Section site.sections >>= λ _. Ok site) f h)

  entries-fine : (l : Site) → entries_of text ≡ Ok l → (limits_of text ≡ Ok tt) × HasNothingTwice text
  unfolding entries_of
  entries-fine l h =
      let names = came_from (names_of text) (λ directory. reported_of text.detectors >>= λ reported. site_of directory text >>= λ site. all_within (section_reported reported) named.Section site.sections >>= λ _. Ok site) l h in
      let fine = names-fine names.0 names.1 in
      let reported = came_from (reported_of text.detectors) (λ reported. site_of names.0 text >>= λ site. all_within (section_reported reported) named.Section site.sections >>= λ _. Ok site) l names.2 in
      (fine.0, record { names = fine.1; ids = fine.2; sections = all-once same_name double.Name (sections_written text) reported.0 (sym (reported-pairs text) ∙ reported.1) })

  text-fault : entries_of text >>= (λ l. ports_once l >>= λ _. Ok l) ≡ Err f → IsFaultOf text f
  text-fault h =
      ⊎_elim
      entries-fault
      (λ l. let fine = entries-fine l.0 l.1 in
      ⊎_elim
      (λ e. inr (fine.0, inr (fine.1, inr (l.0, l.1, joint-fault l.0 f e))))
      (λ p. never l.0 f p.2)
      (failed_at (ports_once l.0) (λ _. Ok l.0) f l.2))
      (failed_at (entries_of text) (λ l. ports_once l >>= λ _. Ok l) f h)

layout-fault : (text : List ℕ) (f : LayoutFault) → layout_in text ≡ Err f → (written_in text ≡ Err f) ⊎ ((w : LayoutText) × (written_in text ≡ Ok w) × IsFaultOf w f)
unfolding layout_in layout_of
layout-fault text f h =
    let G : LayoutText → Result Site LayoutFault = λ w. entries_of w >>= λ l. ports_once l >>= λ _. Ok l in
    let flat = bind_assoc (document_of (parse_document text)) (λ document. text_of document) G in
    ⊎_elim (λ e. inl e) (λ w. inr (w.0, w.1, text-fault w.0 f w.2)) (failed_at (written_in text) G f (flat ∙ h))

pub first-fault : (text : List ℕ) (f : LayoutFault) → Fails f (layout_in text) → IsFirstFault text f
first-fault text OutOfMemory h = tt
first-fault text Toml h = layout-fault text Toml h
first-fault text (MissingKey p) h = layout-fault text (MissingKey p) h
first-fault text (WrongKind p) h = layout-fault text (WrongKind p) h
first-fault text (UnknownName p) h = layout-fault text (UnknownName p) h
first-fault text (DoubleName p) h = layout-fault text (DoubleName p) h
first-fault text (DoubleJoint p) h = layout-fault text (DoubleJoint p) h
first-fault text (Limit p) h = layout-fault text (Limit p) h

-- of what was answered
pub told-first : (text : List ℕ) (answer : Result Site LayoutFault) → Gives (λ l. l) answer (layout_in text) → IfErr answer (IsFirstFault text)
told-first text (Ok l) h = tt
told-first text (Err f) h = first-fault text f h
