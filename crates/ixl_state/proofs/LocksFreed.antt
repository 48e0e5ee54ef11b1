-- What a route locks of which a section is freed, or that is set.
use Rattle.std.proofs.Common.{◌≡◌, ◌≢◌, ◌∙◌, ◌&&◌, ◌==◌, Bool, true, false, not, ℕ, suc, ◌+◌, ◌<◌, List, length, map, drop, Some, Ok, Err, Result, refl, sym, ap, subst, arith, add-one}
use Rattle.std.specs.Prelude.{slice_get, ◌↔◌, IsTrue, IfErr, OnOk}
use Rattle.std.specs.Bool.{Decides}
use Rattle.std.specs.List.{AllPairs, Contains}
use Rattle.std.specs.Option.{option_map}
use Rattle.std.specs.FinSet.{contains, empty, remove, contains-empty, contains-remove}
use Rattle.std.specs.Cmp.{nat_cmp_total, unsigned_tied}
use Rattle.std.specs.Ordering.{nat_cmp}
use Rattle.std.proofs.Math.ListN.{get_or-map}
use Rattle.std.proofs.lemmas.Bool.{eqb-true, eq-eqb, false≢true}
use Rattle.std.proofs.lemmas.Bool.Decides.{Decides-and, Decides-not}
use Rattle.std.proofs.lemmas.List.{length-map}
use Rattle.std.proofs.lemmas.Option.{same_Some, slice_get-map}
use Rattle.ixl_spec.specs.layout.declared.ids.RouteId.{RouteId}
use Rattle.ixl_spec.specs.layout.declared.ids.SectionId.{SectionId}
use Rattle.ixl_spec.specs.layout.Entries.{Site}
use Rattle.ixl_spec.specs.bit_row.Places.{Has, Places}
use Rattle.ixl_spec.specs.control_table.Table.{AreSections, LeadsOver}
use Rattle.route_lock.specs.declared.locks.LockFault.{LockFault}
use Rattle.route_lock.specs.declared.locks.LockFault.TheVariants.{Conflict, PointHeld}
use Rattle.route_lock.specs.Locks.{AreAllSections, Blocks, IsFault, IsSection, LockState, LocksAt, locked_by}
use Rattle.ixl_spec.specs.Due.{HoldsSection}
use Rattle.ixl_spec.specs.Rules.{come_to, freed, one_freed}
use Rattle.ixl_spec.specs.State.{RouteState}
use Rattle.ixl_spec.specs.Table.{Row}
use Rattle.ixl_spec.specs.declared.phase.Phase.{Phase}
use Rattle.ixl_spec.specs.declared.phase.Phase.TheVariants as phase
use Rattle.ixl_table.specs.Locks.{AreLocksOf, IsKeptRoute}
use Rattle.ixl_table.specs.Table.{IsRowOf, IsTableOf, SitedTable, as_route, as_section}
use Rattle.ixl_state.proofs.Lists.{after-rest, apart-after, drop-at, get-below, contains-here, rest-after}
use Rattle.ixl_state.proofs.Sections.{sections-apart, sections-one}

-- ---- numbers and the sections that they name

named : (ns : List ℕ) (n : ℕ) → Contains ns n → Contains (map as_section ns) (as_section n)
named ns n (k, lt, at) = let long = length-map ns as_section in (k, omega (arith, lt, long), get_or-map as_section ns k n ∙ ap as_section at)

names : (ns : List ℕ) (n : ℕ) → Contains (map as_section ns) (as_section n) → Contains ns n
names ns n (k, lt, at) = let long = length-map ns as_section in (k, omega (arith, lt, long), ap (λ (s : SectionId). s.0) (sym (get_or-map as_section ns k n) ∙ at))

numbers-apart : (ns : List ℕ) → AllPairs (λ x y. x ≢ y) (map as_section ns) → AllPairs (λ x y. x ≢ y) ns
numbers-apart ns apart i j d lt within same =
    let long = length-map ns as_section in
    apart i j (as_section d) lt (omega (arith, within, long)) (get_or-map as_section ns i d ∙ ap as_section same ∙ sym (get_or-map as_section ns j d))

-- ---- sets

without : (s : Places) (k j : ℕ) → contains (remove s k) j ≡ (not (j == k) && contains s j)
without s k j = contains-remove nat_cmp_total s k j ∙ ap (λ b. not b && contains s j) (unsigned_tied j k)

has-without : (s : Places) (k j : ℕ) → Has (remove s k) j ↔ ((j ≡ k → ⊥) × IsTrue (contains s j))
has-without s k j =
    let d : Decides (not (j == k) && contains s j) ((j ≡ k → ⊥) × IsTrue (contains s j)) =
    Decides-and (not (j == k)) (contains s j) (Decides-not (j == k) (eqb-true j k, eq-eqb j k)) ((λ h. h), (λ h. h)) in
    ((λ h. d.0 (sym (without s k j) ∙ h)), (λ h. without s k j ∙ d.1 h))

pub none-held : (row : Row) (section : ℕ) → Has empty section ↔ HoldsSection row phase.Free section
none-held row section = ((λ h. absurd (false≢true (sym (contains-empty nat_cmp section) ∙ h))), (λ h. absurd (false≢true h.0)))

-- ---- a route of the table

module _ (sited : SitedTable) (routes : List RouteState) (locks : LockState) (table : IsTableOf sited.site sited.table) (are : AreLocksOf sited routes locks)
    (number : ℕ) (row : Row) (old : RouteState) (is : IsKeptRoute sited.table routes number row old) where
  abbrev a : RouteId
  a = as_route number

  its : IsRowOf sited.site a row
  its = table.rows.their number row is.0

  -- its sections by the locks' table
  listed : (ss : List SectionId) → AreSections locks.table a ss → ss ≡ map as_section row.sections
  listed ss sections = sections-one sited.site a ss (map as_section row.sections) (subst (λ (l : Site). AreSections l a ss) are.site sections) its.sections

  at-place : (n : ℕ) (s : SectionId) → n < length row.sections → IsSection locks.table a n s → slice_get row.sections n ≡ Some s.0
  at-place n s lt section =
      let there = get-below row.sections n lt in
      let same : Some (as_section there.0) ≡ Some s =
      sym (ap (option_map as_section) there.1) ∙ sym (slice_get-map as_section row.sections n) ∙ ap (λ (ss : List SectionId). slice_get ss n) (sym (listed section.0 section.1)) ∙ section.2 in
      there.1 ∙ ap Some (ap (λ (x : SectionId). x.0) (same_Some (as_section there.0) s same))

  module _ (clock done : ℕ) (ended : old.phase ≡ phase.Ended clock done) (lt : done < length row.sections) where
    -- it locks the next section
    pub locks-next : (ss : List SectionId) → AreSections locks.table a ss → LocksAt locks a done ss
    locks-next ss sections =
        let there = get-below row.sections done lt in
        let at : slice_get ss done ≡ Some (as_section there.0) =
        ap (λ (xs : List SectionId). slice_get xs done) (listed ss sections) ∙ slice_get-map as_section row.sections done ∙ ap (option_map as_section) there.1 in
        let held : HoldsSection row (phase.Ended clock done) there.0 =
        (refl, subst (λ (xs : List ℕ). Contains xs there.0) (sym (drop-at row.sections done there.0 there.1)) (contains-here there.0 (drop (suc done) row.sections))) in
        (as_section there.0, at, (are.locked number row old is there.0).1 (subst (λ (p : Phase). HoldsSection row p there.0) (sym ended) held))

    pub one-freed : (s : SectionId) → IsSection locks.table a done s → (section : ℕ) → Has (remove (locked_by locks a) s.0) section ↔ HoldsSection row (phase.Ended clock (done + 1)) section
    one-freed s found section =
        let at = at-place done s lt found in
        let held = are.locked number row old is section in
        let apart = numbers-apart row.sections (sections-apart sited.site a (map as_section row.sections) its.sections) in (
          λ h.
              let both = (has-without (locked_by locks a) s.0 section).0 h in
              let was : HoldsSection row (phase.Ended clock done) section = subst (λ (p : Phase). HoldsSection row p section) ended (held.0 both.1) in
              (refl, subst (λ (n : ℕ). Contains (drop n row.sections) section) (sym (add-one done)) (rest-after row.sections done s.0 section at was.1 both.0)),
          λ h.
              let rest : Contains (drop (suc done) row.sections) section = subst (λ (n : ℕ). Contains (drop n row.sections) section) (add-one done) h.1 in
              let was : HoldsSection row (phase.Ended clock done) section = (refl, after-rest row.sections done s.0 section at rest) in
              (has-without (locked_by locks a) s.0 section).1 (apart-after row.sections done s.0 section apart at rest, held.1 (subst (λ (p : Phase). HoldsSection row p section) (sym ended) was)),
        )

  pub all-locked : ((ss : List SectionId) → AreSections sited.site a ss → (s : SectionId) → Contains ss s ↔ LeadsOver sited.site a s) → (sections : Places) → AreAllSections locks.table a sections
      → (section : ℕ) → Has sections section ↔ HoldsSection row phase.Waiting section
  all-locked over sections all section =
      let leads = over (map as_section row.sections) its.sections (as_section section) in
      let one = all (as_section section) in (
        λ h. (refl, names row.sections section (leads.1 (subst (λ (l : Site). LeadsOver l a (as_section section)) are.site (one.0 h)))),
        λ h. one.1 (subst (λ (l : Site). LeadsOver l a (as_section section)) (sym are.site) (leads.0 (named row.sections section h.1))),
      )

-- ---- a route that nothing blocks

faulty : (locks : LockState) (b : RouteId) (fault : LockFault) → IsFault locks b fault → (c : RouteId) × Blocks locks c b
faulty locks b (Conflict c) is = (c, is.0.0)
faulty locks b (PointHeld c p) is = (c, is.0.0)

pub reserved : {T : Type 0} (A : Type 0) (locks : LockState) (b : RouteId) (result : Result T LockFault) → OnOk result A → IfErr result (IsFault locks b) → ((c : RouteId) → Blocks locks c b → ⊥) → A
reserved A locks b (Ok x) done fault none = done
reserved A locks b (Err f) done fault none = let c = faulty locks b f fault in absurd (none c.0 c.1)

-- ---- what freeing one more makes of a route

pub last-freed : (row : Row) (p : Phase) (clock done : ℕ) → p ≡ phase.Ended clock done → done + 1 ≡ length row.sections → (route : RouteState) → freed route ≡ one_freed row p route
last-freed row p clock done is last route =
    let same : (suc done == length row.sections) ≡ true = eq-eqb (suc done) (length row.sections) (sym (add-one done) ∙ last) in
    subst (λ (q : Phase). freed route ≡ one_freed row q route) (sym is) (rw same refl)

pub more-freed : (row : Row) (p : Phase) (clock done : ℕ) → p ≡ phase.Ended clock done → done + 1 ≢ length row.sections → (route : RouteState) → come_to (phase.Ended clock (done + 1)) route ≡ one_freed row p route
more-freed row p clock done is apart route =
    subst (λ (q : Phase). come_to (phase.Ended clock (done + 1)) route ≡ one_freed row q route) (sym is) (by (suc done == length row.sections) refl) where
      by : (b : Bool) → (suc done == length row.sections) ≡ b → come_to (phase.Ended clock (done + 1)) route ≡ one_freed row (phase.Ended clock done) route
      by true same = absurd (apart (add-one done ∙ eqb-true (suc done) (length row.sections) same))
      by false other = rw other (ap (λ (n : ℕ). come_to (phase.Ended clock n) route) (add-one done))
