-- How a table is made, step by step.
use Rattle.std.proofs.Common.{◌≡◌, ◌∙◌, ◌⊎◌, ◌==◌, ℕ, zero, suc, ◌+◌, ◌<◌, ◌≤◌, List, [], ◌∷◌, ◌++◌, length, map, take, get_or, Option, Some, None, refl, sym, ap, subst, inl, inr, ⊎_elim, arith, add-one}
use Rattle.std.specs.Prelude.{slice_get, slice_index, slice_index_or, ◌↔◌, IfSome, IfNone, IsSome}
use Rattle.std.proofs.Math.Seq.{take-suc}
use Rattle.std.proofs.lemmas.List.{take_all}
use Rattle.std.specs.List.{All, Contains, flat_map}
use Rattle.std.specs.Bool.{Decides}
use Rattle.std.specs.FinSet.{contains, empty, insert}
use Rattle.std.proofs.lemmas.Bool.{eqb-true, eq-eqb}
use Rattle.std.proofs.lemmas.Bool.Decides.{Decides-at, Decides-or}
use Rattle.std.proofs.lemmas.List.Elements.{All-contains, All-push, Contains-append_cases, Contains-get_or}
use Rattle.ixl_spec.specs.sci_telegram.declared.message.Side.{Side}
use Rattle.ixl_spec.specs.sci_telegram.declared.message.Side.TheVariants as side
use Rattle.ixl_spec.specs.layout.declared.ids.SectionId.{SectionId}
use Rattle.ixl_spec.specs.layout.declared.ids.PointId.{PointId}
use Rattle.ixl_spec.specs.layout.declared.ids.RouteId.{RouteId}
use Rattle.ixl_spec.specs.layout.Entries.{DetectorEntry, Site, RouteEntry}
use Rattle.ixl_spec.specs.layout.Station.{HasPoint, HasSection, IsDetectorOf, IsRouteOf, IsStation}
use Rattle.ixl_spec.specs.bit_row.Places.{Has, Places}
use Rattle.ixl_spec.specs.control_table.Topology.{IsRoute}
use Rattle.ixl_spec.specs.control_table.AwaitedSections.{Awaits}
use Rattle.ixl_spec.specs.control_table.Table.{AreRequired, AreSections, InLayoutOrder, LeadsOver, RouteRequires}
use Rattle.ixl_spec.specs.Table.{Need, Row, Table}
use Rattle.ixl_table.specs.Table.{AreNeededAt, IsHeldUntil, IsReportedIn, IsRowOf, IsRowThere, IsSetOf, IsTableOf, IsTableThere, as_point, as_route, as_section, required}
use Rattle.ixl_table.specs.inside.Made.{AreNeedsOf, AreReportersUpTo, AreRowsUpTo, IsPastAwaited, IsPastLast, NoneReports}
use Rattle.ixl_table.proofs.Lists.{contains-before, contains-end, contains-get, contains-here, contains-last, contains-there, contains-map, contains-none, get-before, get-contains, get-end, get-inside, get-last, get-map, has-none, length-last, map-contains, map-get, map-length, mapped-more, none-some, put, some-injective, taken}

-- ---- up to the last

pub past-none : (holds : ℕ → Type 0) → IsPastLast [] holds 0
past-none holds = record { none_later = λ place number e h. absurd (none-some number e); last = inl refl }

pub past-with : (ys : List ℕ) (x : ℕ) (holds : ℕ → Type 0) (past : ℕ) → IsPastLast ys holds past → holds x → IsPastLast (ys ++ x ∷ []) holds (suc (length ys))
past-with ys x holds past is h = record {
  none_later = λ place number e other. ⊎_elim (λ before. let lt = get-inside ys place number before in omega (arith, lt)) (λ here. let at = here.0 in omega (arith, at)) (get-last ys x place number e);
  last = inr (length ys, x, refl, get-end ys x, h);
}

pub past-without : (ys : List ℕ) (x : ℕ) (holds : ℕ → Type 0) (past : ℕ) → IsPastLast ys holds past → (holds x → ⊥) → IsPastLast (ys ++ x ∷ []) holds past
past-without ys x holds past is none = record {
  none_later = λ place number e h. ⊎_elim (λ before. is.none_later place number before h) (λ here. absurd (none (subst holds (sym here.1) h))) (get-last ys x place number e);
  last = ⊎_elim (λ e. inl e) (λ k. inr (k.0, k.1, k.2, get-before ys x k.0 k.1 k.3, k.4)) is.last;
}

pub past-as : (ys : List ℕ) (one other : ℕ → Type 0) (past : ℕ) → ((n : ℕ) → one n ↔ other n) → IsPastLast ys one past → IsPastLast ys other past
past-as ys one other past same is = record {
  none_later = λ place number e h. is.none_later place number e ((same number).1 h);
  last = ⊎_elim (λ e. inl e) (λ k. inr (k.0, k.1, k.2, k.3, (same k.1).0 k.4)) is.last;
}

-- ---- sets

get_or-any : {A : Type 0} (xs : List A) (i : ℕ) (x d : A) → i < length xs → get_or xs i d ≡ get_or xs i x
get_or-any [] i x d lt = absurd (omega (arith, lt))
get_or-any (w ∷ xs) zero x d lt = refl
get_or-any (w ∷ xs) (suc i) x d lt = get_or-any xs i x d (omega (arith, lt))

same-number : (a b : ℕ) → Decides (a == b) (b ≡ a)
same-number a b = (λ h. sym (eqb-true a b h), λ e. eq-eqb a b (sym e))

pub set-none : IsSetOf [] empty
set-none n = (λ h. absurd (has-none n h), λ c. absurd (contains-none n c))

pub set-more : (ys : List ℕ) (x : ℕ) (row : Places) → IsSetOf ys row → IsSetOf (ys ++ x ∷ []) (insert row x)
set-more ys x row is n =
    let d : Decides (contains (insert row x) n) ((x ≡ n) ⊎ Has row n) = Decides-at _ _ (put row x n) (Decides-or (n == x) (contains row n) (same-number n x) (λ h. h, λ h. h)) in (
      λ h. ⊎_elim (λ e. subst (λ (v : ℕ). Contains (ys ++ x ∷ []) v) e (contains-end ys x)) (λ old. contains-before ys x n ((is n).0 old)) (d.0 h),
      λ c. d.1 (⊎_elim (λ old. inr ((is n).1 old)) (λ e. inl e) (contains-last ys x n c)),
    )

pub set-grows : (xs : List ℕ) (i : ℕ) (row new : Places) → i < length xs → IsSetOf (take i xs) row → new ≡ insert row (slice_index xs i) → IsSetOf (take (i + 1) xs) new
set-grows xs i row new lt old is =
    let one : take (i + 1) xs ≡ take i xs ++ slice_index xs i ∷ [] = ap (λ (n : ℕ). take n xs) (add-one i) ∙ take-suc xs i 0 lt in
    subst (λ (ys : List ℕ). IsSetOf ys new) (sym one) (subst (IsSetOf (take i xs ++ slice_index xs i ∷ [])) (sym is) (set-more (take i xs) (slice_index xs i) row old))

-- ---- what a route requires

pub needs-none : (l : Site) (a : RouteId) (sections : List ℕ) → AreNeedsOf l a sections [] []
needs-none l a sections = record { points = refl; until = λ k d lt. absurd (omega (arith, lt)) }

pub needs-more : (l : Site) (a : RouteId) (sections : List ℕ) (asked : List (PointId × Side)) (needs : List Need) (i : ℕ) (one : PointId × Side) (need : Need)
    → i < length asked → one ≡ get_or asked i one → (as_point need.point, need.side) ≡ one → IsPastAwaited l a sections (as_point need.point) need.until
    → AreNeedsOf l a sections (take i asked) needs → AreNeedsOf l a sections (take (suc i) asked) (needs ++ need ∷ [])
needs-more l a sections asked needs i one need lt at is until old = record {
  points = mapped-more (λ (n : Need). (as_point n.point, n.side)) needs asked i need one lt at is old.points;
  until = All-push (λ n. IsPastAwaited l a sections (as_point n.point) n.until) needs need old.until until;
}

pub needs-grow : (l : Site) (a : RouteId) (sections : List ℕ) (asked : List (PointId × Side)) (needs : List Need) (i until : ℕ) (new : List Need)
    → i < length asked → IsPastAwaited l a sections (slice_index_or asked i (as_point 0, side.Right)).0 until
    → new ≡ needs ++ record { point = (slice_index_or asked i (as_point 0, side.Right)).0.0; side = (slice_index_or asked i (as_point 0, side.Right)).1; until = until } ∷ []
    → AreNeedsOf l a sections (take i asked) needs → AreNeedsOf l a sections (take (i + 1) asked) new
needs-grow l a sections asked needs i until new lt past is old =
    let one = slice_index_or asked i (as_point 0, side.Right) in
    subst (AreNeedsOf l a sections (take (i + 1) asked)) (sym is)
    (subst (λ (n : ℕ). AreNeedsOf l a sections (take n asked) (needs ++ record { point = one.0.0; side = one.1; until = until } ∷ [])) (sym (add-one i))
    (needs-more l a sections asked needs i one (record { point = one.0.0; side = one.1; until = until }) lt (get_or-any asked i one (as_point 0, side.Right) lt) refl past old))

-- a point is held until the last section that it awaits is freed
pub held-until : (l : Site) (a : RouteId) (sections : List ℕ) (need : Need)
    → ((s : SectionId) → Contains (map as_section sections) s ↔ LeadsOver l a s)
    → ((s : SectionId) × Awaits l a (as_point need.point) s × LeadsOver l a s)
    → IsPastAwaited l a sections (as_point need.point) need.until → IsHeldUntil l a sections need
held-until l a sections need leads some is =
    let c = contains-map as_section sections some.0 ((leads some.0).1 some.2) in
    let k = contains-get sections c.0 c.1 in
    let awaited : Awaits l a (as_point need.point) (as_section c.0) = subst (Awaits l a (as_point need.point)) (sym c.2) some.1 in
    let lt = is.none_later k.0 c.0 k.1 awaited in
    ⊎_elim
    (λ none. absurd (omega (arith, lt, none)))
    (λ h. record {
      place = h.0;
      section = h.1;
      stands = h.3;
      awaited = h.4;
      last = λ later other e w. let less = is.none_later later other e w in let until = h.2 in omega (arith, less, until);
      until = h.2;
    })
    is.last

-- ---- the rows of a route

pub sections-set : (l : Site) (a : RouteId) (sections : List ℕ) (row : Places)
    → ((s : SectionId) → Contains (map as_section sections) s ↔ LeadsOver l a s) → ((s : SectionId) → Has row s.0 ↔ LeadsOver l a s) → IsSetOf sections row
sections-set l a sections row leads are n = (
  λ h. let c = contains-map as_section sections (as_section n) ((leads (as_section n)).1 ((are (as_section n)).0 h)) in subst (λ (m : ℕ). Contains sections m) (ap (λ (s : SectionId). s.0) c.2) c.1,
  λ c. (are (as_section n)).1 ((leads (as_section n)).0 (map-contains as_section sections n c)),
)

pub needed-at : (l : Site) (a : RouteId) (needs : List Need) (side : Side) (row : Places)
    → AreRequired l a (required needs) → ((p : PointId) → Has row p.0 ↔ RouteRequires l a p side) → AreNeededAt needs side row
needed-at l a needs side row is are point = (
  λ h. (is.points (as_point point) side).1 ((are (as_point point)).0 h),
  λ c. (are (as_point point)).1 ((is.points (as_point point) side).0 c),
)

-- numbers of what is there
pub numbers-there : (numbers : List ℕ) (ids : List SectionId) (count : ℕ) → map as_section numbers ≡ ids → All (λ s. s.0 < count) ids → All (λ n. n < count) numbers
numbers-there numbers ids count is all k d lt =
    All-contains (λ (s : SectionId). s.0 < count) ids (as_section (get_or numbers k d)) all
    (subst (λ (xs : List SectionId). Contains xs (as_section (get_or numbers k d))) is (map-contains as_section numbers (get_or numbers k d) (Contains-get_or numbers k d lt)))

pub routes-there : (numbers : List ℕ) (ids : List RouteId) (count : ℕ) → map as_route numbers ≡ ids → All (λ r. r.0 < count) ids → All (λ n. n < count) numbers
routes-there numbers ids count is all k d lt =
    All-contains (λ (s : RouteId). s.0 < count) ids (as_route (get_or numbers k d)) all
    (subst (λ (xs : List RouteId). Contains xs (as_route (get_or numbers k d))) is (map-contains as_route numbers (get_or numbers k d) (Contains-get_or numbers k d lt)))

pub all-until : (l : Site) (a : RouteId) (sections : List ℕ) (needs : List Need)
    → ((s : SectionId) → Contains (map as_section sections) s ↔ LeadsOver l a s)
    → ((p : PointId) (t : Side) → RouteRequires l a p t → (s : SectionId) × Awaits l a p s × LeadsOver l a s)
    → AreRequired l a (required needs) → AreNeedsOf l a sections (required needs) needs → All (IsHeldUntil l a sections) needs
all-until l a sections needs leads some are is k d lt =
    let need = get_or needs k d in
    let c = Contains-get_or needs k d lt in
    let asked : RouteRequires l a (as_point need.point) need.side = (are.points (as_point need.point) need.side).0 (map-contains (λ (n : Need). (as_point n.point, n.side)) needs need c) in
    held-until l a sections need leads (some (as_point need.point) need.side asked) (is.until k d lt)

-- ---- rows and reporters, one after another

pub rows-none : (l : Site) → AreRowsUpTo l 0 []
rows-none l = record { so_many = refl; their = λ number row e. absurd (none-some row e) }

pub rows-more : (l : Site) (count : ℕ) (rows : List Row) (row : Row) → AreRowsUpTo l count rows → IsRowOf l (as_route count) row → AreRowsUpTo l (suc count) (rows ++ row ∷ [])
rows-more l count rows row old is = record {
  so_many = length-last rows row ∙ ap suc old.so_many;
  their = λ number other e. ⊎_elim (λ before. old.their number other before) (λ here. subst (λ (n : ℕ). IsRowOf l (as_route n) other) (sym (here.0 ∙ old.so_many)) (subst (IsRowOf l (as_route count)) here.1 is)) (get-last rows row number other e);
}

pub rows-grow : (l : Site) (count : ℕ) (rows : List Row) (row : Row) (new : List Row) → IsRowOf l (as_route count) row → new ≡ rows ++ row ∷ [] → AreRowsUpTo l count rows → AreRowsUpTo l (count + 1) new
rows-grow l count rows row new is e old = subst (AreRowsUpTo l (count + 1)) (sym e) (subst (λ (n : ℕ). AreRowsUpTo l n (rows ++ row ∷ [])) (sym (add-one count)) (rows-more l count rows row old is))

pub reporters-none : (l : Site) → AreReportersUpTo l 0 []
reporters-none l = record { so_many = refl; their = λ section reporter e. absurd (none-some reporter e) }

pub reporters-more : (l : Site) (count : ℕ) (reporters : List (ℕ × ℕ)) (reporter : ℕ × ℕ) → AreReportersUpTo l count reporters → IsReportedIn l.detectors count reporter → AreReportersUpTo l (suc count) (reporters ++ reporter ∷ [])
reporters-more l count reporters reporter old is = record {
  so_many = length-last reporters reporter ∙ ap suc old.so_many;
  their = λ section other e. ⊎_elim (λ before. old.their section other before) (λ here. subst (λ (n : ℕ). IsReportedIn l.detectors n other) (sym (here.0 ∙ old.so_many)) (subst (IsReportedIn l.detectors count) here.1 is)) (get-last reporters reporter section other e);
}

pub none-reports-more : (ds : List DetectorEntry) (d : DetectorEntry) (section : ℕ) → NoneReports ds section → (Contains d.sections (as_section section) → ⊥) → NoneReports (ds ++ d ∷ []) section
none-reports-more ds d section none not place other e c =
    ⊎_elim (λ before. none place other before c) (λ here. not (subst (λ (x : DetectorEntry). Contains x.sections (as_section section)) (sym here.1) c)) (get-last ds d place other e)

pub none-reports-grows : (ds : List DetectorEntry) (i section : ℕ) (d : DetectorEntry) (its : List SectionId) → i < length ds → d ≡ get_or ds i d → its ≡ d.sections → (Contains its (as_section section) → ⊥)
    → NoneReports (take i ds) section → NoneReports (take (i + 1) ds) section
none-reports-grows ds i section d its lt at is not none =
    subst (λ (xs : List DetectorEntry). NoneReports xs section) (sym (ap (λ (n : ℕ). take n ds) (add-one i) ∙ taken ds i d lt at))
    (none-reports-more (take i ds) d section none (subst (λ (xs : List SectionId). Contains xs (as_section section) → ⊥) is not))

pub none-reports-all : (ds : List DetectorEntry) (i section : ℕ) → length ds ≤ i → NoneReports (take i ds) section → NoneReports ds section
none-reports-all ds i section le none = subst (λ (xs : List DetectorEntry). NoneReports xs section) (take_all i ds le) none

pub reporters-grow : (l : Site) (count : ℕ) (reporters : List (ℕ × ℕ)) (reporter : ℕ × ℕ) (new : List (ℕ × ℕ)) → IsReportedIn l.detectors count reporter → new ≡ reporters ++ reporter ∷ [] → AreReportersUpTo l count reporters → AreReportersUpTo l (count + 1) new
reporters-grow l count reporters reporter new is e old = subst (AreReportersUpTo l (count + 1)) (sym e) (subst (λ (n : ℕ). AreReportersUpTo l n (reporters ++ reporter ∷ [])) (sym (add-one count)) (reporters-more l count reporters reporter old is))

-- each section of a station is reported
in-some : (ds : List DetectorEntry) (s : SectionId) → Contains (flat_map (λ d. d.sections) ds) s → (place : ℕ) × (d : DetectorEntry) × (slice_get ds place ≡ Some d) × Contains d.sections s
in-some [] s c = absurd (contains-none s c)
in-some (d ∷ ds) s c =
    ⊎_elim (λ here. (0, d, refl, here)) (λ later. let h = in-some ds s later in (suc h.0, h.1, h.2, h.3)) (Contains-append_cases d.sections (flat_map (λ d. d.sections) ds) s c)

pub some-reports : (l : Site) → IsStation l → (section : ℕ) → section < length l.sections → NoneReports l.detectors section → ⊥
some-reports l station section lt none =
    let h = in-some l.detectors (as_section section) (station.reported.each (as_section section) lt) in
    none h.0 h.1 h.2 h.3

-- what none fails to report some reports
pub report-is-some : {A : Type 0} {none : Type 0} (o : Option A) → IfNone o none → (none → ⊥) → IsSome o
report-is-some None h not = absurd (not h)
report-is-some (Some x) h not = grind arith

pub if-some : {A : Type 0} (holds : A → Type 0) (o : Option A) (x : A) → o ≡ Some x → IfSome o holds → holds x
if-some holds None x e h = absurd (none-some x e)
if-some holds (Some y) x e h = subst holds (some-injective y x e) h

map-map : {A B C : Type 0} (f : A → B) (g : B → C) (xs : List A) → map g (map f xs) ≡ map (λ x. g (f x)) xs
map-map f g [] = refl
map-map f g (x ∷ xs) = ap (λ ys. g (f x) ∷ ys) (map-map f g xs)

pub lists-mapped : {A C : Type 0} (f : A → List ℕ) (g : List ℕ → C) (xs : List A) (ys : List C) → map (λ x. g (f x)) xs ≡ ys → map g (map f xs) ≡ ys
lists-mapped f g xs ys e = map-map f g xs ∙ e

-- the approach of a route, as a row of bits
pub approach-within : (l : Site) → IsStation l → (a : RouteId) (r : RouteEntry) → IsRoute l a r → (numbers lent : List ℕ) → lent ≡ numbers → map as_section numbers ≡ r.approach → All (λ n. n < 64) lent
approach-within l station a r at numbers lent same is =
    let names = All-contains (IsRouteOf l) l.routes r station.routes (get-contains l.routes a.0 r at) in
    let few = station.limits.sections in
    let there = numbers-there numbers r.approach (length l.sections) is names.approach in
    subst (λ (xs : List ℕ). All (λ n. n < 64) xs) (sym same) (λ k d lt. let h = there k d lt in omega (arith, h, few))

-- points in layout order, all below a number, are no more than this
pub in-order : (least most : ℕ) (ns : List (PointId × Side)) → ((n : PointId × Side) → Contains ns n → least ≤ n.0.0) → ((n : PointId × Side) → Contains ns n → n.0.0 < most) → least ≤ most → InLayoutOrder ns → length ns + least ≤ most
in-order least most [] from below le order = omega (arith, le)
in-order least most (m ∷ ns) from below le order =
    let here = from m (contains-here m ns) in
    let lt = below m (contains-here m ns) in
    let rest = in-order (suc m.0.0) most ns (λ n c. let after = order.0 n c in omega (arith, after)) (λ n c. below n (contains-there m n ns c)) (omega (arith, lt)) order.1 in
    omega (arith, here, rest)

-- ---- all that a table names is there

module _ (l : Site) (table : Table) (station : IsStation l) (is : IsTableOf l table)
    (few : (a : RouteId) (ss : List SectionId) → AreSections l a ss → (1 ≤ length ss) × (length ss ≤ 64) × All (HasSection l) ss)
    (points : (a : RouteId) (p : PointId) (s : Side) → RouteRequires l a p s → HasPoint l p) where
  row-there : (number : ℕ) (row : Row) → slice_get table.rows number ≡ Some row → IsRowThere l row
  row-there number row at =
      let its = is.rows.their number row at in
      let a = as_route number in
      let names = All-contains (IsRouteOf l) l.routes its.written station.routes (get-contains l.routes number its.written its.is_route) in
      let sections = few a (map as_section row.sections) its.sections in
      let same = map-length as_section row.sections in
      record {
        entry = subst (λ (n : ℕ). n < length l.signals) (sym its.entry) names.entry;
        some = subst (λ (n : ℕ). 1 ≤ n) same sections.0;
        few = subst (λ (n : ℕ). n ≤ 64) same sections.1;
        few_needs =
            let ns = required row.needs in
            let most = in-order 0 (length l.points) ns (λ n c. omega arith) (λ n c. points a n.0 n.1 ((its.needs.points n.0 n.1).0 c)) (omega arith) its.needs.order in
            let same_length = map-length {B = PointId × Side} (λ (n : Need). (as_point n.point, n.side)) row.needs in
            omega (arith, most, same_length);
        sections = numbers-there row.sections (map as_section row.sections) (length l.sections) refl sections.2;
        points = λ k d lt. points a (as_point (get_or row.needs k d).point) (get_or row.needs k d).side ((its.needs.points (as_point (get_or row.needs k d).point) (get_or row.needs k d).side).0 (map-contains (λ (n : Need). (as_point n.point, n.side)) row.needs (get_or row.needs k d) (Contains-get_or row.needs k d lt)));
        from_one = λ k d lt. let u = (its.until k d lt).until in omega (arith, u);
        until = λ k d lt. let h = its.until k d lt in let u = h.until in let inside = get-inside row.sections h.place h.section h.stands in omega (arith, u, inside);
        approach = numbers-there row.approach its.written.approach (length l.sections) its.approach names.approach;
        extra = routes-there row.extra its.written.extra (length l.routes) its.extra names.extra;
      }

  detector-there : (place : ℕ) (sections : List ℕ) → slice_get table.detectors place ≡ Some sections → (d : DetectorEntry) × (slice_get l.detectors place ≡ Some d) × (d.sections ≡ map as_section sections)
  detector-there place sections at =
      let here = subst (λ (xs : List (List SectionId)). slice_get xs place ≡ Some (map as_section sections)) is.detectors (map-get (λ (s : List ℕ). map as_section s) table.detectors place sections at) in
      get-map (λ (d : DetectorEntry). d.sections) l.detectors place (map as_section sections) here

  its-reporter : (section : ℕ) (reporter : ℕ × ℕ) → slice_get table.reporters section ≡ Some reporter
      → (sections : List ℕ) × (slice_get table.detectors reporter.0 ≡ Some sections) × (slice_get sections reporter.1 ≡ Some section)
  its-reporter section reporter at =
      let h = is.reporters.their section reporter at in
      let there = subst (λ (xs : List (List SectionId)). slice_get xs reporter.0 ≡ Some h.0.sections) (sym is.detectors) (map-get (λ (d : DetectorEntry). d.sections) l.detectors reporter.0 h.0 h.1) in
      let own = get-map (λ (s : List ℕ). map as_section s) table.detectors reporter.0 h.0.sections there in
      let one = get-map as_section own.0 reporter.1 (as_section section) (subst (λ (xs : List SectionId). slice_get xs reporter.1 ≡ Some (as_section section)) (sym own.2) h.2) in
      (own.0, own.1, subst (λ (n : ℕ). slice_get own.0 reporter.1 ≡ Some n) (ap (λ (s : SectionId). s.0) one.2) one.1)

  pub table-there : IsTableThere l table
  table-there = record {
    rows = row-there;
    each_point = sym (map-length as_section table.point_sections) ∙ ap length is.point_sections ∙ map-length (λ point. point.section) l.points;
    point_sections = numbers-there table.point_sections (map (λ point. point.section) l.points) (length l.sections) is.point_sections
        (λ k d lt. let c = contains-map (λ point. point.section) l.points (get_or (map (λ point. point.section) l.points) k d) (Contains-get_or (map (λ point. point.section) l.points) k d lt) in
        subst (λ (s : SectionId). s.0 < length l.sections) c.2 (All-contains (λ point. HasSection l point.section) l.points c.0 station.points c.1));
    each_detector = sym (map-length (λ (s : List ℕ). map as_section s) table.detectors) ∙ ap length is.detectors ∙ map-length (λ (d : DetectorEntry). d.sections) l.detectors;
    detectors = λ place sections at.
        let h = detector-there place sections at in
        let d = All-contains (IsDetectorOf l) l.detectors h.0 station.detectors (get-contains l.detectors place h.0 h.1) in (
          subst (λ (n : ℕ). n ≤ 16) (map-length as_section sections) (subst (λ (xs : List SectionId). length xs ≤ 16) h.2 d.few),
          numbers-there sections h.0.sections (length l.sections) (sym h.2) d.sections,
        );
    reporters = its-reporter;
  }
