-- The machine's table, by what the layout says of its routes.
use Rattle.std.proofs.Common.{◌≡◌, ◌∙◌, Bool, true, false, not, ◌&&◌, ◌||◌, ◌==◌, ◌<◌, ℕ, zero, suc, List, map, Option, Some, None, refl, sym, ap, subst, ⊎_elim}
use Rattle.std.specs.Prelude.{◌≢◌, ◌↔◌, slice_get}
use Rattle.std.specs.List.{Contains, list_any}
use Rattle.std.proofs.lemmas.Bool.{eq-eqb, false≢true}
use Rattle.simulator_link_laws.specs.sci_telegram.declared.message.Aspect.{Aspect}
use Rattle.simulator_link_laws.specs.sci_telegram.declared.message.Aspect.TheVariants as aspects
use Rattle.simulator_link_laws.specs.sci_telegram.declared.message.Side.{Side}
use Rattle.simulator_link_laws.specs.sci_telegram.declared.message.Side.TheVariants as side
use Rattle.simulator_link_laws.specs.layout.declared.ids.SectionId.{SectionId}
use Rattle.simulator_link_laws.specs.layout.declared.ids.PointId.{PointId}
use Rattle.simulator_link_laws.specs.layout.declared.ids.RouteId.{RouteId}
use Rattle.simulator_link_laws.specs.layout.Entries.{Site, RouteEntry}
use Rattle.simulator_link_laws.specs.layout.Station.{HasRoute}
use Rattle.simulator_link_laws.specs.control_table.Topology.{IsRoute}
use Rattle.simulator_link_laws.specs.control_table.Table.{AreSections, Conflict, HasAspect, LeadsOver, Lists, RequireDifferently, RouteRequires, SameEntry, ShareSection}
use Rattle.simulator_link_laws.specs.ixl_spec.Table.{Need, Row, Table, is_same_side}
use Rattle.ixl_table.specs.Table.{IsRowOf, IsTableOf, as_point, as_route, as_section}
use Rattle.simulator_machine.specs.Lists.{is_same}
use Rattle.simulator_link_laws.specs.simulator_move_laws.Rows.{is_elsewhere, is_side_seen, machine_table, row_at, row_or_none, rows_conflict, some_pair}
use Rattle.simulator_machine.specs.Signal.{Stop, Proceed}
use Rattle.simulator_machine.specs.Signal as machine
use Rattle.simulator_link_laws.specs.simulator_move_laws.Telegrams.{aspect_seen, side_seen}
use Rattle.simulator_safety.proofs.WorldLists.{any_true, contains_map, get_below, get_inside, left_of, right_of, some_injective}

pub true_both : (a b : Bool) → a ≡ true → b ≡ true → a && b ≡ true
true_both true b one other = other
true_both false b one other = absurd (false≢true one)

sides_differ : (a b : Side) → a ≢ b → not (is_same_side a b) ≡ true
sides_differ side.Right side.Right other = absurd (other refl)
sides_differ side.Right side.Left other = refl
sides_differ side.Left side.Right other = refl
sides_differ side.Left side.Left other = absurd (other refl)

-- no two aspects are seen as one
abbrev aspect_told : machine.Aspect → Aspect
aspect_told Stop = aspects.Stop
aspect_told (Proceed zero) = aspects.Proceed
aspect_told (Proceed (suc n)) = aspects.Slow

told_as_seen : (one : Aspect) → aspect_told (aspect_seen one) ≡ one
told_as_seen aspects.Stop = refl
told_as_seen aspects.Proceed = refl
told_as_seen aspects.Slow = refl

pub aspects_are_told : (one other : Aspect) → aspect_seen one ≡ aspect_seen other → one ≡ other
aspects_are_told one other same = sym (told_as_seen one) ∙ ap aspect_told same ∙ told_as_seen other

side_is_seen : (s : Side) → is_side_seen (side_seen s) (side_seen s) ≡ true
side_is_seen side.Right = refl
side_is_seen side.Left = refl

-- ---- rows of a layout's routes

-- the row of a route
pub row_there : (site : Site) (table : Table) → IsTableOf site table → (a : RouteId) (r : RouteEntry) → IsRoute site a r → (row : Row) × (slice_get table.rows a.0 ≡ Some row) × IsRowOf site a row
row_there site table is a r there =
    let inside = get_inside site.routes a.0 r there in
    let found = get_below table.rows a.0 (subst (λ (n : ℕ). a.0 < n) (sym is.rows.each) inside) in (found.0, found.1, is.rows.their a.0 found.0 found.1)

pub row_is : (table : Table) (number : ℕ) (row : Row) → slice_get table.rows number ≡ Some row → row_at table number ≡ row
row_is table number row is = ap row_or_none is

abbrev IsNeeded : Need → PointId → Side → Type 0
IsNeeded need p s = (as_point need.point ≡ p) × (need.side ≡ s)

-- the need of a point that a route requires
pub needs_it : (site : Site) (a : RouteId) (row : Row) → IsRowOf site a row → (p : PointId) (s : Side) → RouteRequires site a p s → (need : Need) × Contains row.needs need × IsNeeded need p s
needs_it site a row is p s requires =
    let found = contains_map (λ (need : Need). (as_point need.point, need.side)) row.needs (p, s) ((is.needs.points p s).1 requires)
    in (found.0, found.1, (ap (λ (x : PointId × Side). x.0) found.2, ap (λ (x : PointId × Side). x.1) found.2))

-- of a place in a list of numbers
section_in : (site : Site) → ((a : RouteId) (ss : List SectionId) → AreSections site a ss → (s : SectionId) → Contains ss s ↔ LeadsOver site a s) → (a : RouteId) (row : Row) → IsRowOf site a row →
    (s : SectionId) → LeadsOver site a s → Contains row.sections s.0
section_in site alone a row is s over =
    let found = contains_map as_section row.sections s ((alone a (map as_section row.sections) is.sections s).1 over) in subst (λ (n : ℕ). Contains row.sections n) (ap (λ (one : SectionId). one.0) found.2) found.1

-- ---- conflicts

module _ (site : Site) (alone : (a : RouteId) (ss : List SectionId) → AreSections site a ss → (s : SectionId) → Contains ss s ↔ LeadsOver site a s) (a b : RouteId) (row other : Row) (is : IsRowOf site a row)
    (other_is : IsRowOf site b other) where
  abbrev entry : Bool
  entry = row.entry == other.entry

  abbrev sections : Bool
  sections = some_pair (λ one another. one == another) row.sections other.sections

  abbrev needs : Bool
  needs = some_pair is_elsewhere row.needs other.needs

  abbrev one : Bool
  one = list_any (λ listed. listed == b.0) row.extra

  abbrev two : Bool
  two = list_any (λ listed. listed == a.0) other.extra

  abbrev all : Bool
  all = entry || sections || needs || one || two

  by_needs : entry || sections || needs ≡ true → all ≡ true
  by_needs e = left_of (entry || sections || needs || one) two (left_of (entry || sections || needs) one e)

  written_alike : (c : RouteId) (x : Row) (x_is : IsRowOf site c x) (r : RouteEntry) → IsRoute site c r → x_is.written ≡ r
  written_alike c x x_is r there = some_injective x_is.written r (sym x_is.is_route ∙ there)

  same_entry : SameEntry site a b → all ≡ true
  same_entry (r, q, r_is, q_is, e) =
      let same : row.entry ≡ other.entry = is.entry ∙ ap (λ (x : RouteEntry). x.entry.0) (written_alike a row is r r_is) ∙ ap (λ x. x.0) e ∙ sym (other_is.entry ∙ ap (λ (x : RouteEntry). x.entry.0) (written_alike b other other_is q q_is))
      in by_needs (left_of (entry || sections) needs (left_of entry sections (eq-eqb row.entry other.entry same)))

  share_section : ShareSection site a b → all ≡ true
  share_section (s, over, other_over) =
      let here = section_in site alone a row is s over in
      let there = section_in site alone b other other_is s other_over in
      let found = any_true (λ n. list_any (λ another. n == another) other.sections) row.sections s.0 here (any_true (λ another. s.0 == another) other.sections s.0 there (eq-eqb s.0 s.0 refl))
      in by_needs (left_of (entry || sections) needs (right_of entry sections found))

  require_differently : RequireDifferently site a b → all ≡ true
  require_differently (p, s, t, differ, requires, other_requires) =
      let here = needs_it site a row is p s requires in
      let there = needs_it site b other other_is p t other_requires in
      let point : here.0.point ≡ there.0.point = ap (λ (x : PointId). x.0) (here.2.0 ∙ sym there.2.0) in
      let sides : here.0.side ≢ there.0.side = λ e. differ (sym here.2.1 ∙ e ∙ there.2.1) in
      let test = true_both (here.0.point == there.0.point) (not (is_same_side here.0.side there.0.side)) (eq-eqb here.0.point there.0.point point) (sides_differ here.0.side there.0.side sides) in
      let found = any_true (λ need. list_any (is_elsewhere need) other.needs) row.needs here.0 here.1 (any_true (is_elsewhere here.0) other.needs there.0 there.1 test)
      in by_needs (right_of (entry || sections) needs found)

  listed_in : (c d : RouteId) (x : Row) → IsRowOf site c x → Lists site c d → list_any (λ listed. listed == d.0) x.extra ≡ true
  listed_in c d x x_is (r, r_is, c_lists) =
      let found = contains_map as_route x.extra d (subst (λ (l : List RouteId). Contains l d) (sym (x_is.extra ∙ ap (λ (w : RouteEntry). w.extra) (written_alike c x x_is r r_is))) c_lists)
      in any_true (λ listed. listed == d.0) x.extra found.0 found.1 (eq-eqb found.0 d.0 (ap (λ (w : RouteId). w.0) found.2))

  pub rows_do_conflict : Conflict site a b → rows_conflict a.0 row b.0 other ≡ true
  rows_do_conflict (differ, why) =
      ⊎_elim same_entry (λ h. ⊎_elim share_section (λ k. ⊎_elim require_differently (λ m. ⊎_elim (λ l. left_of (entry || sections || needs || one) two (right_of (entry || sections || needs) one (listed_in a b row is l))) (λ l. right_of (entry || sections || needs || one) two (listed_in b a other other_is l)) m) k) h) why

-- ---- the machine's table

pub entry_there : (site : Site) (a : RouteId) → HasRoute site a → (r : RouteEntry) × IsRoute site a r
entry_there site a there = get_below site.routes a.0 there

module _ (site : Site) (table : Table) (is : IsTableOf site table) where
  pub conflict_is_seen : ((a : RouteId) (ss : List SectionId) → AreSections site a ss → (s : SectionId) → Contains ss s ↔ LeadsOver site a s) → ((a b : ℕ) → a ≢ b → is_same a b ≡ false) →
      (a b : RouteId) → HasRoute site a → HasRoute site b → Conflict site a b → (machine_table table).conflict a.0 b.0 ≡ true
  unfolding machine_table
  conflict_is_seen alone other_numbers a b a_there b_there conflict =
      let r = entry_there site a a_there in
      let q = entry_there site b b_there in
      let row = row_there site table is a r.0 r.1 in
      let other = row_there site table is b q.0 q.1 in
      let differ : a.0 ≢ b.0 = λ e. conflict.0 (ap (λ (n : ℕ). as_route n) e) in
      let rows : rows_conflict a.0 (row_at table a.0) b.0 (row_at table b.0) ≡ true =
      subst (λ (x : Row). rows_conflict a.0 x b.0 (row_at table b.0) ≡ true) (sym (row_is table a.0 row.0 row.1))
      (subst (λ (x : Row). rows_conflict a.0 row.0 b.0 x ≡ true) (sym (row_is table b.0 other.0 other.1)) (rows_do_conflict site alone a b row.0 other.0 row.2 other.2 conflict))
      in true_both (not (is_same a.0 b.0)) (rows_conflict a.0 (row_at table a.0) b.0 (row_at table b.0)) (ap not (other_numbers a.0 b.0 differ)) rows

  pub requirement_is_seen : (a : RouteId) (p : PointId) (s : Side) → RouteRequires site a p s → (machine_table table).requires a.0 p.0 (side_seen s) ≡ true
  unfolding machine_table
  requirement_is_seen a p s requires =
      let row = row_there site table is a requires.0 requires.2 in
      let need = needs_it site a row.0 row.2 p s requires in
      let test : Need → Bool = λ n. n.point == p.0 && is_side_seen (side_seen n.side) (side_seen s) in
      let point : need.0.point ≡ p.0 = ap (λ (x : PointId). x.0) need.2.0 in
      let sides : need.0.side ≡ s = need.2.1 in
      let passes = true_both (need.0.point == p.0) (is_side_seen (side_seen need.0.side) (side_seen s)) (eq-eqb need.0.point p.0 point)
      (subst (λ (x : Side). is_side_seen (side_seen x) (side_seen s) ≡ true) (sym sides) (side_is_seen s))
      in subst (λ (x : Row). list_any test x.needs ≡ true) (sym (row_is table a.0 row.0 row.1)) (any_true test row.0.needs need.0 need.1 passes)

  -- a route that isn't there shows stop
  pub aspect_is_seen : (a : RouteId) (aspect : Aspect) → (machine_table table).aspect a.0 ≡ aspect_seen aspect → aspect ≢ aspects.Stop → HasAspect site a aspect
  unfolding machine_table
  aspect_is_seen a aspect same other = cases (slice_get table.rows a.0) refl same where
    cases : (found : Option Row) → slice_get table.rows a.0 ≡ found → aspect_seen (row_or_none found).aspect ≡ aspect_seen aspect → HasAspect site a aspect
    cases None there e = absurd (other (sym (aspects_are_told aspects.Stop aspect e)))
    cases (Some row) there e = subst (λ (x : Aspect). HasAspect site a x) (aspects_are_told row.aspect aspect e) (is.rows.their a.0 row there).aspect
