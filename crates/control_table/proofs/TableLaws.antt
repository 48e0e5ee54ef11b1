-- The table that is computed is sound, and each fault is the first.
use Rattle.std.proofs.Common.{◌≡◌, Bool, true, false, not, ◌&&◌, ◌==◌, ℕ, zero, suc, ◌+◌, ◌<◌, List, [], ◌∷◌, length, Some, Result, Ok, Err, refl, sym, ap, subst, ◌∙◌, inl, ⊎_elim, arith}
use Rattle.std.proofs.lemmas.Bool.{false≢true}
use Rattle.std.proofs.lemmas.Bool.Decides.{Decides-and, Decides-not, Decides-like}
use Rattle.std.specs.Bool.{Decides}
use Rattle.std.specs.Prelude.{slice_get, if◌then◌else◌}
use Rattle.std.specs.List.{Contains, list_all}
use Rattle.sci_telegram.specs.declared.message.Side.{Side}
use Rattle.layout.specs.declared.ids.SectionId.{SectionId}
use Rattle.layout.specs.declared.ids.PointId.{PointId}
use Rattle.layout.specs.declared.ids.RouteId.{RouteId}
use Rattle.layout.specs.Entries.{RouteEntry, Site}
use Rattle.control_table.specs.declared.fault.FaultyRoute.{FaultyRoute}
use Rattle.control_table.specs.declared.fault.TableFault.{TableFault}
use Rattle.control_table.specs.declared.fault.TableFault.TheVariants.{PathBroken, PathRepeats, PointMissing, PointWrong, FlankMissing, FlankOpen, FlankContradicts, SignalPlace, NotSymmetric, OutOfMemory}
use Rattle.control_table.specs.Topology.{IsRoute}
use Rattle.control_table.specs.Path.{Passage, elements, sections, ComesOnce, SignalsPlaced, Path, same_section}
use Rattle.control_table.specs.Sides.{FlanksGuarded, NoneAtBothSides, PointsNamed, WritesOnlyRequired, FlankNamed, WritesRequired}
use Rattle.control_table.specs.Table.{Lists, ExtrasListed, SoundRoute, Sound}
use Rattle.control_table.specs.Faults.{BeforePointMissing, BeforeSignalPlace, IsFaultOf, ToldAt, IsFirstFault}
use Rattle.control_table.specs.inside.TableTests.{is_element, ◌>>=◌, Fails, path_of, all_different, sections_of, needs, protections, points_written, points_right, flank_right, flank_written, flanks_guarded, consistent, in_layout_order, required_of, signals_placed, names_route, lists, extras_listed, TableRow, row_of, rows_from, rows_of}
use Rattle.control_table.proofs.Joints.{OneBeyond}
use Rattle.control_table.proofs.Judged.{none-some, err-ok, ok-injective, err-injective, ok-from, err-from, passed, failed_or_passed}
use Rattle.control_table.proofs.Members.{all-decides, has-decides, some-injective}
use Rattle.control_table.proofs.Same.{route-decides}
use Rattle.control_table.proofs.PathLaws.{path-follows, path-broken, one-path, once-decides, signals-decide, some_and-decides}
use Rattle.control_table.proofs.SideLaws.{points_written-decides, right-decides, flank_written-decides, flanks-decide, consistent-decides}
use Rattle.control_table.proofs.OrderLaws.{one-side}

-- ---- extra conflicts

pub lists-decides : (l : Site) (a b : RouteId) → Decides (lists l.routes a b) (Lists l a b)
unfolding lists
lists-decides l a b =
    let P : RouteEntry → Type 0 = λ r. Contains r.extra b in
    some_and-decides (λ r. names_route r.extra b) P (λ r. has-decides (λ c d. c.0 == d.0) route-decides r.extra b) (slice_get l.routes a.0)

pub extras-decide : (l : Site) (a : RouteId) (r : RouteEntry) → Decides (extras_listed l.routes a r.extra) (ExtrasListed l a r)
unfolding extras_listed
extras-decide l a r =
    let P : RouteId → Type 0 = λ b. (b ≡ a → ⊥) × Lists l b a in
    Decides-like (list_all (λ b. not (b.0 == a.0) && lists l.routes b a) r.extra) (λ h. h) (λ h. h)
    (all-decides (λ b. not (b.0 == a.0) && lists l.routes b a) P (λ b. Decides-and (not (b.0 == a.0)) (lists l.routes b a) (Decides-not (b.0 == a.0) (route-decides b a)) (lists-decides l b a)) r.extra)

-- ---- what is written is what is required

pub writes-all : (l : Site) (r : RouteEntry) (path : List Passage) → PointsNamed r path → WritesOnlyRequired l r path → FlankNamed l r path → NoneAtBothSides l path → WritesRequired l r path
writes-all l r path points only flank none =
    let P : PointId → Side → Type 0 = λ p s. Contains r.points (p, s) in
    let F : PointId → Side → Type 0 = λ p s. Contains r.flank (p, s) in
    record {
      points = λ p s. (only.points p s, λ h. let named = points p h.1 in subst (P p) (one-side l path none p named.0 s (only.points p named.0 named.1).0 h.0) named.1);
      flank = λ p s. (only.flank p s, λ h. let named = flank p s h.0 h.1 in subst (F p) (one-side l path none p named.0 s (only.flank p named.0 named.1).0 h.0) named.1);
    }

pub all-named : (l : Site) (r : RouteEntry) (path : List Passage) → WritesRequired l r path → PointsNamed r path
all-named l r path h p on = (on.1, (h.points p on.1).1 ((on.0, on.2, inl on.3), on))

pub only-required : (l : Site) (r : RouteEntry) (path : List Passage) → WritesRequired l r path → WritesOnlyRequired l r path
only-required l r path h = record { points = λ p s. (h.points p s).0; flank = λ p s. (h.flank p s).0 }

pub flank-named : (l : Site) (r : RouteEntry) (path : List Passage) → WritesRequired l r path → FlankNamed l r path
flank-named l r path h p s needed off = (s, (h.flank p s).1 (needed, off))

-- ---- one route

taken : {A : Type 0} (b : Bool) (x y : A) (f : TableFault) → (if b then Ok x else Err f) ≡ Ok y → (b ≡ true) × (x ≡ y)
taken true x y f e = (refl, ok-injective x y e)
taken false x y f e = absurd (err-ok f y e)

refused : {A : Type 0} (b : Bool) (x : A) (f g : TableFault) → (if b then Ok x else Err f) ≡ Err g → (b ≡ false) × (f ≡ g)
refused true x f g e = absurd (err-ok g x (sym e))
refused {A} false x f g e = (refl, err-injective {A = A} f g e)

false-not : {P : Type 0} (b : Bool) → Decides b P → b ≡ false → P → ⊥
false-not b d e p = false≢true (sym e ∙ d.1 p)

-- what the tests of points and flanks say of a path
pub record Protected (l : Site) (r : RouteEntry) (path : List Passage) : Type 0 where
  pub points : PointsNamed r path
  pub only : WritesOnlyRequired l r path
  pub flank : FlankNamed l r path
  pub guarded : FlanksGuarded l path
  pub consistent : NoneAtBothSides l path

pub required-found : (place : FaultyRoute) (l : Site) (one : OneBeyond l) (r : RouteEntry) (path : List Passage) (ns : List (PointId × Side)) → required_of place l r path ≡ Ok ns → Protected l r path × (in_layout_order (needs l path) ≡ ns)
unfolding required_of
required-found place l one r path ns e =
    let last : Result (List (PointId × Side)) TableFault = Ok (in_layout_order (needs l path)) in
    let e7 : Result (List (PointId × Side)) TableFault = if not (consistent (needs l path)) then Err (FlankContradicts place) else last in
    let e6 : Result (List (PointId × Side)) TableFault = if not (flanks_guarded l path) then Err (FlankOpen place) else e7 in
    let e5 : Result (List (PointId × Side)) TableFault = if not (flank_written r path (needs l path)) then Err (FlankMissing place) else e6 in
    let e4 : Result (List (PointId × Side)) TableFault = if not (points_right r path (needs l path) && flank_right r path (needs l path)) then Err (PointWrong place) else e5 in
    let t3 = passed (points_written r path) (PointMissing place) e4 ns e in
    let t4 = passed (points_right r path (needs l path) && flank_right r path (needs l path)) (PointWrong place) e5 ns t3.1 in
    let t5 = passed (flank_written r path (needs l path)) (FlankMissing place) e6 ns t4.1 in
    let t6 = passed (flanks_guarded l path) (FlankOpen place) e7 ns t5.1 in
    let t7 = passed (consistent (needs l path)) (FlankContradicts place) last ns t6.1 in (
      record {
        points = (points_written-decides r path).0 t3.0;
        only = (right-decides l one r path).0 t4.0;
        flank = (flank_written-decides l one r path).0 t5.0;
        guarded = (flanks-decide l one path).0 t6.0;
        consistent = (consistent-decides l one path).0 t7.0;
      },
      ok-injective (in_layout_order (needs l path)) ns t7.1,
    )

-- a fault of the points and flanks of a path that comes once
pub required-fault : (place : FaultyRoute) (l : Site) (one : OneBeyond l) (r : RouteEntry) (path : List Passage) (f : TableFault) (C : TableFault → Type 0) → required_of place l r path ≡ Err f → BeforePointMissing l r path
    → ((g : TableFault) → IsFaultOf l place r g → C g) → C f
unfolding required_of
required-fault place l one r path f C e so_far told =
    let last : Result (List (PointId × Side)) TableFault = Ok (in_layout_order (needs l path)) in
    let e7 : Result (List (PointId × Side)) TableFault = if not (consistent (needs l path)) then Err (FlankContradicts place) else last in
    let e6 : Result (List (PointId × Side)) TableFault = if not (flanks_guarded l path) then Err (FlankOpen place) else e7 in
    let e5 : Result (List (PointId × Side)) TableFault = if not (flank_written r path (needs l path)) then Err (FlankMissing place) else e6 in
    let e4 : Result (List (PointId × Side)) TableFault = if not (points_right r path (needs l path) && flank_right r path (needs l path)) then Err (PointWrong place) else e5 in
    let d3 = points_written-decides r path in
    let d4 = right-decides l one r path in
    let d5 = flank_written-decides l one r path in
    let d6 = flanks-decide l one path in
    let d7 = consistent-decides l one path in
    ⊎_elim (λ h. subst C h.1 (told (PointMissing place) (refl, path, so_far, false-not (points_written r path) d3 h.0))) (λ t3.
    ⊎_elim (λ h. subst C h.1 (told (PointWrong place) (refl, path, (so_far, d3.0 t3.0), false-not (points_right r path (needs l path) && flank_right r path (needs l path)) d4 h.0))) (λ t4.
    ⊎_elim (λ h. subst C h.1 (told (FlankMissing place) (refl, path, ((so_far, d3.0 t3.0), d4.0 t4.0), false-not (flank_written r path (needs l path)) d5 h.0))) (λ t5.
    ⊎_elim (λ h. subst C h.1 (told (FlankOpen place) (refl, path, (((so_far, d3.0 t3.0), d4.0 t4.0), d5.0 t5.0), false-not (flanks_guarded l path) d6 h.0))) (λ t6.
    ⊎_elim (λ h. subst C h.1 (told (FlankContradicts place) (refl, path, ((((so_far, d3.0 t3.0), d4.0 t4.0), d5.0 t5.0), d6.0 t6.0), false-not (consistent (needs l path)) d7 h.0))) (λ t7. absurd (err-ok f (in_layout_order (needs l path)) (sym t7.1)))
    (failed_or_passed (consistent (needs l path)) (FlankContradicts place) f last t6.1))
    (failed_or_passed (flanks_guarded l path) (FlankOpen place) f e7 t5.1))
    (failed_or_passed (flank_written r path (needs l path)) (FlankMissing place) f e6 t4.1))
    (failed_or_passed (points_right r path (needs l path) && flank_right r path (needs l path)) (PointWrong place) f e5 t3.1))
    (failed_or_passed (points_written r path) (PointMissing place) f e4 e)

-- what the row of a route says
pub record RowFacts (l : Site) (a : RouteId) (r : RouteEntry) (row : TableRow) : Type 0 where
  pub path : List Passage
  pub is_path : Path l r path
  pub protected : Protected l r path
  pub listed : ExtrasListed l a r
  pub sections : row.sections ≡ sections l path
  pub required : row.required ≡ in_layout_order (needs l path)
  pub protections : row.protections ≡ protections l path

abbrev row_listed : FaultyRoute → Site → RouteEntry → TableRow → Result TableRow TableFault
row_listed place l r row = if not (extras_listed l.routes place.id r.extra) then Err (NotSymmetric place) else Ok row

abbrev row_placed : FaultyRoute → Site → RouteEntry → List Passage → TableRow → Result TableRow TableFault
row_placed place l r path row = if not (signals_placed l r path) then Err (SignalPlace place) else row_listed place l r row

abbrev row_with : FaultyRoute → Site → RouteEntry → List Passage → List SectionId → Result TableRow TableFault
row_with place l r path ss = required_of place l r path >>= λ ns. row_placed place l r path (record { sections = ss; required = ns; protections = protections l path })

abbrev row_on : FaultyRoute → Site → RouteEntry → List Passage → Result TableRow TableFault
row_on place l r path = sections_of place l path >>= λ ss. row_with place l r path ss

pub row-found : (place : FaultyRoute) (l : Site) (one : OneBeyond l) (r : RouteEntry) (row : TableRow) → row_of place l r ≡ Ok row → RowFacts l place.id r row
unfolding row_of sections_of
row-found place l one r row e =
    let a = ok-from (path_of place l r) (row_on place l r) row e in
    let path = a.0 in
    let b = ok-from (sections_of place l path) (row_with place l r path) row a.2 in
    let once = taken (all_different is_element (elements path) && all_different same_section (sections l path)) (sections l path) b.0 (PathRepeats place) b.1 in
    let c = ok-from (required_of place l r path) (λ ns. row_placed place l r path (record { sections = b.0; required = ns; protections = protections l path })) row b.2 in
    let kept = required-found place l one r path c.0 c.1 in
    let made : TableRow = record { sections = b.0; required = c.0; protections = protections l path } in
    let placed = passed (signals_placed l r path) (SignalPlace place) (row_listed place l r made) row c.2 in
    let listed = passed (extras_listed l.routes place.id r.extra) (NotSymmetric place) (Ok made) row placed.1 in
    let same : made ≡ row = ok-injective made row listed.1 in
    record {
      path = path;
      is_path = record { follows = path-follows place l r path a.1; once = (once-decides l path).0 once.0; signals = (signals-decide l one r path).0 placed.0 };
      protected = kept.0;
      listed = (extras-decide l place.id r).0 listed.0;
      sections = ap (λ (x : TableRow). x.sections) (sym same) ∙ sym once.1;
      required = ap (λ (x : TableRow). x.required) (sym same) ∙ sym kept.1;
      protections = ap (λ (x : TableRow). x.protections) (sym same);
    }

pub row-fault : (place : FaultyRoute) (l : Site) (one : OneBeyond l) (r : RouteEntry) (f : TableFault) (C : TableFault → Type 0) → row_of place l r ≡ Err f → ((g : TableFault) → IsFaultOf l place r g → C g) → C f
unfolding row_of sections_of
row-fault place l one r f C e told =
    ⊎_elim (λ h. let broken = path-broken place l one r f h in subst C broken.0 (told (PathBroken place) (refl, broken.1))) (λ a.
    let path = a.0 in
    let follows = path-follows place l r path a.1 in
    let once = all_different is_element (elements path) && all_different same_section (sections l path) in
    ⊎_elim (λ h. let again = refused once (sections l path) (PathRepeats place) f h in subst C again.1 (told (PathRepeats place) (refl, path, follows, false-not once (once-decides l path) again.0))) (λ b.
    let comes = (once-decides l path).0 (taken once (sections l path) b.0 (PathRepeats place) b.1).0 in
    ⊎_elim (λ h. required-fault place l one r path f C h (follows, comes) told) (λ c.
    let kept = (required-found place l one r path c.0 c.1).0 in
    let before : BeforeSignalPlace l r path = ((((((follows, comes), kept.points), kept.only), kept.flank), kept.guarded), kept.consistent) in
    let made : TableRow = record { sections = b.0; required = c.0; protections = protections l path } in
    ⊎_elim (λ h. subst C h.1 (told (SignalPlace place) (refl, path, before, false-not (signals_placed l r path) (signals-decide l one r path) h.0))) (λ placed.
    ⊎_elim (λ h. subst C h.1 (told (NotSymmetric place) (refl, path, (before, (signals-decide l one r path).0 placed.0), false-not (extras_listed l.routes place.id r.extra) (extras-decide l place.id r) h.0))) (λ listed. absurd (err-ok f made (sym listed.1)))
    (failed_or_passed (extras_listed l.routes place.id r.extra) (NotSymmetric place) f (Ok made) placed.1))
    (failed_or_passed (signals_placed l r path) (SignalPlace place) f (row_listed place l r made) c.2))
    (err-from (required_of place l r path) (λ ns. row_placed place l r path (record { sections = b.0; required = ns; protections = protections l path })) f b.2))
    (err-from (sections_of place l path) (row_with place l r path) f a.2))
    (err-from (path_of place l r) (row_on place l r) f e)

pub row-sound : (l : Site) (a : RouteId) (r : RouteEntry) (row : TableRow) → RowFacts l a r row → SoundRoute l a r
row-sound l a r row h =
    let k = h.protected in
    record { path = h.path; is_path = h.is_path; writes = writes-all l r h.path k.points k.only k.flank k.consistent; consistent = k.consistent; guarded = k.guarded; listed = h.listed }

-- ---- all routes

abbrev pub place_at : ℕ → List ℕ → FaultyRoute
place_at n name = record { id = record { 0 = n }; name = name }

abbrev rows_after : Site → ℕ → List RouteEntry → TableRow → Result (List TableRow) TableFault
rows_after l n routes row = rows_from l (suc n) routes >>= λ rows. Ok (row ∷ rows)

-- each route has its row
pub each-row : (l : Site) (n : ℕ) (routes : List RouteEntry) (rows : List TableRow) → rows_from l n routes ≡ Ok rows → (k : ℕ) (r : RouteEntry) → slice_get routes k ≡ Some r
    → (row : TableRow) × (slice_get rows k ≡ Some row) × (row_of (place_at (n + k) r.name) l r ≡ Ok row)
unfolding rows_from
each-row l n [] rows e k r at = absurd (none-some r at)
each-row l n (q ∷ routes) rows e zero r at =
    let a = ok-from (row_of (place_at n q.name) l q) (rows_after l n routes) rows e in
    let b = ok-from (rows_from l (suc n) routes) (λ rest. Ok (a.0 ∷ rest)) rows a.2 in
    let m : n ≡ n + 0 = omega arith in
    let R : ℕ → RouteEntry → Type 0 = λ i x. row_of (place_at i x.name) l x ≡ Ok a.0 in
    (a.0, ap (λ rows. slice_get rows 0) (sym (ok-injective (a.0 ∷ b.0) rows b.2)), subst (λ i. R i r) m (subst (R n) (some-injective q r at) a.1))
each-row l n (q ∷ routes) rows e (suc k) r at =
    let a = ok-from (row_of (place_at n q.name) l q) (rows_after l n routes) rows e in
    let b = ok-from (rows_from l (suc n) routes) (λ rest. Ok (a.0 ∷ rest)) rows a.2 in
    let later = each-row l (suc n) routes b.0 b.1 k r at in
    let m : suc n + k ≡ n + suc k = omega arith in
    let R : ℕ → Type 0 = λ i. row_of (place_at i r.name) l r ≡ Ok later.0 in
    (later.0, ap (λ rows. slice_get rows (suc k)) (sym (ok-injective (a.0 ∷ b.0) rows b.2)) ∙ later.1, subst R m later.2)

pub rows-length : (l : Site) (n : ℕ) (routes : List RouteEntry) (rows : List TableRow) → rows_from l n routes ≡ Ok rows → length rows ≡ length routes
unfolding rows_from
rows-length l n [] rows e = ap length (sym (ok-injective [] rows e))
rows-length l n (q ∷ routes) rows e =
    let a = ok-from (row_of (place_at n q.name) l q) (rows_after l n routes) rows e in
    let b = ok-from (rows_from l (suc n) routes) (λ rest. Ok (a.0 ∷ rest)) rows a.2 in
    ap length (sym (ok-injective (a.0 ∷ b.0) rows b.2)) ∙ ap suc (rows-length l (suc n) routes b.0 b.1)

-- the first route that has none
pub record FirstWithout (l : Site) (n : ℕ) (routes : List RouteEntry) (f : TableFault) : Type 0 where
  pub at : ℕ
  pub route : RouteEntry
  pub there : slice_get routes at ≡ Some route
  pub fault : row_of (place_at (n + at) route.name) l route ≡ Err f
  pub before : (k : ℕ) (q : RouteEntry) → k < at → slice_get routes k ≡ Some q → (row : TableRow) × (row_of (place_at (n + k) q.name) l q ≡ Ok row)

without_before : (l : Site) (n : ℕ) (q : RouteEntry) (routes : List RouteEntry) (f : TableFault) (row : TableRow) → row_of (place_at n q.name) l q ≡ Ok row → (w : FirstWithout l (suc n) routes f)
    → (k : ℕ) (x : RouteEntry) → k < suc w.at → slice_get (q ∷ routes) k ≡ Some x → (row : TableRow) × (row_of (place_at (n + k) x.name) l x ≡ Ok row)
without_before l n q routes f row found w zero x lt at =
    let m : n ≡ n + 0 = omega arith in
    let R : ℕ → RouteEntry → Type 0 = λ i y. row_of (place_at i y.name) l y ≡ Ok row in
    (row, subst (λ i. R i x) m (subst (R n) (some-injective q x at) found))
without_before l n q routes f row found w (suc k) x lt at =
    let below : k < w.at = omega (arith, lt) in
    let h = w.before k x below at in
    let m : suc n + k ≡ n + suc k = omega arith in
    let R : ℕ → Type 0 = λ i. row_of (place_at i x.name) l x ≡ Ok h.0 in
    (h.0, subst R m h.1)

without_later : (l : Site) (n : ℕ) (q : RouteEntry) (routes : List RouteEntry) (f : TableFault) (row : TableRow) → row_of (place_at n q.name) l q ≡ Ok row → FirstWithout l (suc n) routes f → FirstWithout l n (q ∷ routes) f
without_later l n q routes f row found w =
    let m : suc n + w.at ≡ n + suc w.at = omega arith in
    let R : ℕ → Type 0 = λ i. row_of (place_at i w.route.name) l w.route ≡ Err f in
    record { at = suc w.at; route = w.route; there = w.there; fault = subst R m w.fault; before = without_before l n q routes f row found w }

pub first-without : (l : Site) (n : ℕ) (routes : List RouteEntry) (f : TableFault) → rows_from l n routes ≡ Err f → FirstWithout l n routes f
unfolding rows_from
first-without l n [] f e = absurd (err-ok f [] (sym e))
first-without l n (q ∷ routes) f e =
    let here : row_of (place_at n q.name) l q ≡ Err f → FirstWithout l n (q ∷ routes) f = λ h.
    let m : n ≡ n + 0 = omega arith in
    let R : ℕ → Type 0 = λ i. row_of (place_at i q.name) l q ≡ Err f in
    record { at = 0; route = q; there = refl; fault = subst R m h; before = λ k x lt there. absurd (omega (arith, lt)) } in
    let later : ((row : TableRow) × (row_of (place_at n q.name) l q ≡ Ok row) × (rows_after l n routes row ≡ Err f)) → FirstWithout l n (q ∷ routes) f = λ h.
    ⊎_elim (λ on. without_later l n q routes f h.0 h.1 (first-without l (suc n) routes f on)) (λ done. absurd (err-ok f (h.0 ∷ done.0) (sym done.2)))
    (err-from (rows_from l (suc n) routes) (λ rest. Ok (h.0 ∷ rest)) f h.2) in
    ⊎_elim here later (err-from (row_of (place_at n q.name) l q) (rows_after l n routes) f e)

-- ---- the table

pub table-row : (l : Site) (one : OneBeyond l) (rows : List TableRow) → rows_of l ≡ Ok rows → (a : RouteId) (r : RouteEntry) → IsRoute l a r → (row : TableRow) × (slice_get rows a.0 ≡ Some row) × RowFacts l a r row
unfolding rows_of
table-row l one rows e a r at =
    let h = each-row l 0 l.routes rows e a.0 r at in
    let m : 0 + a.0 ≡ a.0 = omega arith in
    let R : ℕ → Type 0 = λ i. row_of (place_at i r.name) l r ≡ Ok h.0 in
    (h.0, h.1, row-found (place_at a.0 r.name) l one r h.0 (subst R m h.2))

pub table-sound : (l : Site) (one : OneBeyond l) (rows : List TableRow) → rows_of l ≡ Ok rows → Sound l
table-sound l one rows e a r at = let h = table-row l one rows e a r at in row-sound l a r h.0 h.2

first-told : (l : Site) (one : OneBeyond l) (f g : TableFault) (w : FirstWithout l 0 l.routes f) → IsFaultOf l (place_at w.at w.route.name) w.route g → ToldAt l (place_at w.at w.route.name) g
first-told l one f g w h =
    record {
      route = w.route;
      in_table = w.there;
      named = refl;
      fault = h;
      first = λ b q lt at.
          let k = w.before b.0 q lt at in
          let m : 0 + b.0 ≡ b.0 = omega arith in
          let R : ℕ → Type 0 = λ i. row_of (place_at i q.name) l q ≡ Ok k.0 in
          row-sound l b q k.0 (row-found (place_at b.0 q.name) l one q k.0 (subst R m k.1));
    }

is-first : (l : Site) (f : TableFault) → ((at : FaultyRoute) × ToldAt l at f) → IsFirstFault l f
is-first l (PathBroken told) h = h
is-first l (PathRepeats told) h = h
is-first l (PointMissing told) h = h
is-first l (PointWrong told) h = h
is-first l (FlankMissing told) h = h
is-first l (FlankOpen told) h = h
is-first l (FlankContradicts told) h = h
is-first l (SignalPlace told) h = h
is-first l (NotSymmetric told) h = h
is-first l OutOfMemory h = tt

pub table-fault : (l : Site) (one : OneBeyond l) (f : TableFault) → rows_of l ≡ Err f → IsFirstFault l f
unfolding rows_of
table-fault l one f e =
    let w = first-without l 0 l.routes f e in
    let m : 0 + w.at ≡ w.at = omega arith in
    let R : ℕ → Type 0 = λ i. row_of (place_at i w.route.name) l w.route ≡ Err f in
    row-fault (place_at w.at w.route.name) l one w.route f (IsFirstFault l) (subst R m w.fault) (λ g h. is-first l g (place_at w.at w.route.name, first-told l one f g w h))

-- a sound route has no fault
sound-faultless : (l : Site) (one : OneBeyond l) (at : FaultyRoute) (r : RouteEntry) (f : TableFault) → SoundRoute l at.id r → IsFaultOf l at r f → ⊥
sound-faultless l one at r (PathBroken told) s h = h.1 s.path s.is_path.follows
sound-faultless l one at r (PathRepeats told) s h = h.3 (subst (ComesOnce l) (one-path l one r at s.path h.1 s.is_path.follows h.2) s.is_path.once)
sound-faultless l one at r (PointMissing told) s h = h.3 (subst (PointsNamed r) (one-path l one r at s.path h.1 s.is_path.follows h.2.0) (all-named l r s.path s.writes))
sound-faultless l one at r (PointWrong told) s h = h.3 (subst (WritesOnlyRequired l r) (one-path l one r at s.path h.1 s.is_path.follows h.2.0.0) (only-required l r s.path s.writes))
sound-faultless l one at r (FlankMissing told) s h = h.3 (subst (FlankNamed l r) (one-path l one r at s.path h.1 s.is_path.follows h.2.0.0.0) (flank-named l r s.path s.writes))
sound-faultless l one at r (FlankOpen told) s h = h.3 (subst (FlanksGuarded l) (one-path l one r at s.path h.1 s.is_path.follows h.2.0.0.0.0) s.guarded)
sound-faultless l one at r (FlankContradicts told) s h = h.3 (subst (NoneAtBothSides l) (one-path l one r at s.path h.1 s.is_path.follows h.2.0.0.0.0.0) s.consistent)
sound-faultless l one at r (SignalPlace told) s h = h.3 (subst (SignalsPlaced l r) (one-path l one r at s.path h.1 s.is_path.follows h.2.0.0.0.0.0.0) s.is_path.signals)
sound-faultless l one at r (NotSymmetric told) s h = h.3 s.listed
sound-faultless l one at r OutOfMemory s h = h

told-unsound : (l : Site) (one : OneBeyond l) (f : TableFault) → ((at : FaultyRoute) × ToldAt l at f) → Sound l → ⊥
told-unsound l one f h s = let t = h.1 in sound-faultless l one h.0 t.route f (s h.0.id t.route t.in_table) t.fault

pub only-memory : (l : Site) (one : OneBeyond l) (f : TableFault) → IsFirstFault l f → Sound l → f ≡ OutOfMemory
only-memory l one OutOfMemory h s = refl
only-memory l one (PathBroken told) h s = absurd (told-unsound l one (PathBroken told) h s)
only-memory l one (PathRepeats told) h s = absurd (told-unsound l one (PathRepeats told) h s)
only-memory l one (PointMissing told) h s = absurd (told-unsound l one (PointMissing told) h s)
only-memory l one (PointWrong told) h s = absurd (told-unsound l one (PointWrong told) h s)
only-memory l one (FlankMissing told) h s = absurd (told-unsound l one (FlankMissing told) h s)
only-memory l one (FlankOpen told) h s = absurd (told-unsound l one (FlankOpen told) h s)
only-memory l one (FlankContradicts told) h s = absurd (told-unsound l one (FlankContradicts told) h s)
only-memory l one (SignalPlace told) h s = absurd (told-unsound l one (SignalPlace told) h s)
only-memory l one (NotSymmetric told) h s = absurd (told-unsound l one (NotSymmetric told) h s)

-- what a function answered that fails as the rows do
pub fails-first : (l : Site) (one : OneBeyond l) (f : TableFault) → Fails f (rows_of l) → IsFirstFault l f
fails-first l one OutOfMemory h = tt
fails-first l one (PathBroken told) h = table-fault l one (PathBroken told) h
fails-first l one (PathRepeats told) h = table-fault l one (PathRepeats told) h
fails-first l one (PointMissing told) h = table-fault l one (PointMissing told) h
fails-first l one (PointWrong told) h = table-fault l one (PointWrong told) h
fails-first l one (FlankMissing told) h = table-fault l one (FlankMissing told) h
fails-first l one (FlankOpen told) h = table-fault l one (FlankOpen told) h
fails-first l one (FlankContradicts told) h = table-fault l one (FlankContradicts told) h
fails-first l one (SignalPlace told) h = table-fault l one (SignalPlace told) h
fails-first l one (NotSymmetric told) h = table-fault l one (NotSymmetric told) h
