-- What the tests of held sections and points decide, and which route blocks another first.
use Rattle.std.proofs.Common.{inl, inr, ◌≡◌, ◌≢◌, ◌⊎◌, ℕ, suc, zero, ◌+◌, ◌<◌, Bool, true, false, if◌then◌else◌, List, [], ◌∷◌, drop, arith, refl, ap, sym, ◌∙◌, subst}
use Rattle.std.specs.Prelude.{◌||◌, ◌==◌, IsTrue, Option, Some, None, is_some, slice_get}
use Rattle.std.specs.List.{Contains, list_any}
use Rattle.std.proofs.lemmas.Bool.{false≢true}
use Rattle.std.proofs.lemmas.Option.{same_Some}
use Rattle.closings.specs.sci_telegram.declared.message.Side.{Side}
use Rattle.ixl_spec.specs.Table.{Need, Row, Table, is_same_side}
use Rattle.ixl_spec.specs.State.{IxlState, RouteState}
use Rattle.ixl_spec.specs.View.{blocks, first_blocking, freed_sections, holds_need, holds_point, holds_point_at, holds_point_elsewhere, holds_section, is_held_at, is_held_with_authority, is_set, some_route, was_authorised}
use Rattle.ixl_spec.specs.Due.{Blocks, HoldsPoint, HoldsSection, IsHeldAt, IsHeldWithAuthority, IsRouteOf}
use Rattle.ixl_spec.specs.declared.phase.Phase.{Phase}
use Rattle.ixl_spec.specs.Refusals.{IsFirstBlocking}
use Rattle.ixl_spec.proofs.Decide.{Decides, any_decides, both_decide, equal_decides, equally, itself_decides, less_decides, negation_decides, no, or_decide}
use Rattle.ixl_spec.proofs.Knows.{itself, same_side}

pub none_is : {A : Type 0} {one : A} → None ≡ Some one → ⊥
none_is is = false≢true (ap is_some is)

same_side_decides : (a b : Side) → Decides (is_same_side a b) (a ≡ b)
same_side_decides a b = record { yes = same_side a b; shown = λ is. subst (λ s. is_same_side a s ≡ true) is (itself a) }

pub section_decides : (row : Row) (phase : Phase) (section : ℕ) → Decides (holds_section row phase section) (HoldsSection row phase section)
section_decides row phase section = both_decide _ _ _ _ (itself_decides (is_set phase))
    (equally _ _ _ (any_decides _ (λ other. other ≡ section) (drop (freed_sections phase) row.sections) (λ other. equal_decides other section))
    (λ h. subst (Contains (drop (freed_sections phase) row.sections)) h.2 h.1) (λ h. (section, h, refl)))

pub need_decides : (phase : Phase) (need : Need) → Decides (holds_need phase need) (IsTrue (is_set phase) × (freed_sections phase < need.until))
need_decides phase need = both_decide _ _ _ _ (itself_decides (is_set phase)) (less_decides (freed_sections phase) need.until)

pub point_at_decides : (row : Row) (phase : Phase) (point : ℕ) (side : Side) → Decides (holds_point_at row phase point side) (HoldsPoint row phase point side)
point_at_decides row phase point side = equally _ _ _
    (any_decides _ (λ need. ((need.point ≡ point) × (need.side ≡ side)) × (IsTrue (is_set phase) × (freed_sections phase < need.until))) row.needs
    (λ need. both_decide _ _ _ _ (both_decide _ _ _ _ (equal_decides need.point point) (same_side_decides need.side side)) (need_decides phase need)))
    (λ h. (h.2.1.0, (h.0, h.1, h.2.0.0, h.2.0.1, h.2.1.1))) (λ h. (h.1.0, h.1.1, ((h.1.2, h.1.3), (h.0, h.1.4))))

pub point_decides : (row : Row) (phase : Phase) (point : ℕ) → Decides (holds_point row phase point) ((side : Side) × HoldsPoint row phase point side)
point_decides row phase point = equally _ _ _
    (any_decides _ (λ need. (need.point ≡ point) × (IsTrue (is_set phase) × (freed_sections phase < need.until))) row.needs
    (λ need. both_decide _ _ _ _ (equal_decides need.point point) (need_decides phase need)))
    (λ h. (h.0.side, (h.2.1.0, (h.0, h.1, h.2.0, refl, h.2.1.1)))) (λ h. (h.1.1.0, h.1.1.1, (h.1.1.2, (h.1.0, h.1.1.4))))

elsewhere_decides : (row : Row) (phase : Phase) (wanted : Need) →
    Decides (holds_point_elsewhere row phase wanted) ((side : Side) × ((side ≢ wanted.side) × HoldsPoint row phase wanted.point side))
elsewhere_decides row phase wanted = equally _ _ _
    (any_decides _ (λ need. ((need.point ≡ wanted.point) × (need.side ≡ wanted.side → ⊥)) × (IsTrue (is_set phase) × (freed_sections phase < need.until))) row.needs
    (λ need. both_decide _ _ _ _ (both_decide _ _ _ _ (equal_decides need.point wanted.point) (negation_decides _ _ (same_side_decides need.side wanted.side))) (need_decides phase need)))
    (λ h. (h.0.side, (h.2.0.1, (h.2.1.0, (h.0, h.1, h.2.0.0, refl, h.2.1.1)))))
    (λ h. (h.1.1.1.0, h.1.1.1.1, ((h.1.1.1.2, (λ same. h.1.0 (sym h.1.1.1.3 ∙ same))), (h.1.1.0, h.1.1.1.4))))

-- ---- some route

abbrev AtSome : (ℕ → Row → RouteState → Type 0) → ℕ → List Row → List RouteState → Type 0
AtSome holds number rows routes =
    (place : ℕ) × (row : Row) × (route : RouteState) × ((slice_get rows place ≡ Some row) × (slice_get routes place ≡ Some route)) × holds (number + place) row route

some_decides : (test : ℕ → Row → RouteState → Bool) (holds : ℕ → Row → RouteState → Type 0) (number : ℕ) (rows : List Row) (routes : List RouteState) →
    ((number : ℕ) (row : Row) (route : RouteState) → Decides (test number row route) (holds number row route)) → Decides (some_route test number rows routes) (AtSome holds number rows routes)
some_decides test holds number [] routes each = record { yes = λ is. absurd (false≢true is); shown = λ is. absurd (none_is is.3.0) }
some_decides test holds number (row ∷ rows) [] each = record { yes = λ is. absurd (false≢true is); shown = λ is. absurd (none_is is.3.1) }
some_decides test holds number (row ∷ rows) (route ∷ routes) each =
    equally _ _ _ (or_decide _ _ _ _ (each number row route) (some_decides test holds (suc number) rows routes each)) there back
  where
    there : holds number row route ⊎ AtSome holds (suc number) rows routes → AtSome holds number (row ∷ rows) (route ∷ routes)
    there (inl is) = (0, row, route, (refl, refl), subst (λ n. holds n row route) (omega arith) is)
    there (inr is) = (suc is.0, is.1, is.2, is.3, subst (λ n. holds n is.1 is.2) (omega arith) is.4)

    back : AtSome holds number (row ∷ rows) (route ∷ routes) → holds number row route ⊎ AtSome holds (suc number) rows routes
    back (zero, other, state, is, holding) = inl (subst (λ r. holds number r route) (sym (same_Some _ _ is.0)) (subst (λ r. holds number other r) (sym (same_Some _ _ is.1)) (subst (λ n. holds n other state) (omega arith) holding)))
    back (suc place, other, state, is, holding) = inr (place, other, state, is, subst (λ n. holds n other state) (omega arith) holding)

pub held_at_decides : (table : Table) (ixl : IxlState) (point : ℕ) (side : Side) → Decides (is_held_at table ixl point side) (IsHeldAt table ixl point side)
held_at_decides table ixl point side = equally _ _ _
    (some_decides _ (λ number row route. HoldsPoint row route.phase point side) 0 table.rows ixl.routes (λ number row route. point_at_decides row route.phase point side))
    (λ h. h) (λ h. h)

pub held_with_authority_decides : (table : Table) (ixl : IxlState) (point : ℕ) → Decides (is_held_with_authority table ixl point) (IsHeldWithAuthority table ixl point)
held_with_authority_decides table ixl point = equally _ _ _
    (some_decides _ (λ number row route. IsTrue (was_authorised route.phase) × ((side : Side) × HoldsPoint row route.phase point side)) 0 table.rows ixl.routes
    (λ number row route. both_decide _ _ _ _ (itself_decides (was_authorised route.phase)) (point_decides row route.phase point)))
    (λ h. (h.0, h.1, h.2, h.4.1.0, h.3, h.4.0, h.4.1.1)) (λ h. (h.0, h.1, h.2, h.4, (h.5, (h.3, h.6))))

-- ---- blocking

abbrev WhyBlocks : ℕ → Row → ℕ → Row → RouteState → Type 0
WhyBlocks wanted wanted_row number row route = (row.entry ≡ wanted_row.entry) ⊎ (Contains row.extra wanted ⊎ (Contains wanted_row.extra number
    ⊎ (((section : ℕ) × Contains wanted_row.sections section × HoldsSection row route.phase section)
    ⊎ ((need : Need) × (side : Side) × Contains wanted_row.needs need × (side ≢ need.side) × HoldsPoint row route.phase need.point side))))

among_decides : (list : List ℕ) (one : ℕ) → Decides (list_any (λ other. other == one) list) (Contains list one)
among_decides list one = equally _ _ _ (any_decides _ (λ other. other ≡ one) list (λ other. equal_decides other one))
    (λ h. subst (Contains list) h.2 h.1) (λ h. (one, h, refl))

pub record BlocksBy (wanted : ℕ) (wanted_row : Row) (number : ℕ) (row : Row) (route : RouteState) : Type 0 where
  pub other : number ≡ wanted → ⊥
  pub set : IsTrue (is_set route.phase)
  pub why : WhyBlocks wanted wanted_row number row route

to_right : {A B C D E : Type 0} → (((A ⊎ B) ⊎ C) ⊎ D) ⊎ E → A ⊎ (B ⊎ (C ⊎ (D ⊎ E)))
to_right (inl (inl (inl (inl a)))) = inl a
to_right (inl (inl (inl (inr b)))) = inr (inl b)
to_right (inl (inl (inr c))) = inr (inr (inl c))
to_right (inl (inr d)) = inr (inr (inr (inl d)))
to_right (inr e) = inr (inr (inr (inr e)))

to_left : {A B C D E : Type 0} → A ⊎ (B ⊎ (C ⊎ (D ⊎ E))) → (((A ⊎ B) ⊎ C) ⊎ D) ⊎ E
to_left (inl a) = inl (inl (inl (inl a)))
to_left (inr (inl b)) = inl (inl (inl (inr b)))
to_left (inr (inr (inl c))) = inl (inl (inr c))
to_left (inr (inr (inr (inl d)))) = inl (inr d)
to_left (inr (inr (inr (inr e)))) = inr e

blocks_decides : (wanted : ℕ) (wanted_row : Row) (number : ℕ) (row : Row) (route : RouteState) →
    Decides (blocks wanted wanted_row number row route) (BlocksBy wanted wanted_row number row route)
blocks_decides wanted wanted_row number row route = equally _ _ _
    (both_decide _ _ _ _ (both_decide _ _ _ _ (negation_decides _ _ (equal_decides number wanted)) (itself_decides (is_set route.phase))) why)
    (λ h. record { other = h.0.0; set = h.0.1; why = h.1 }) (λ b. ((b.other, b.set), b.why))
  where
    elsewhere : Decides (list_any (holds_point_elsewhere row route.phase) wanted_row.needs)
        ((need : Need) × (side : Side) × Contains wanted_row.needs need × (side ≢ need.side) × HoldsPoint row route.phase need.point side)
    elsewhere = equally _ _ _ (any_decides _ _ wanted_row.needs (elsewhere_decides row route.phase)) (λ h. (h.0, h.2.0, h.1, h.2.1.0, h.2.1.1)) (λ h. (h.0, h.2, (h.1, (h.3, h.4))))

    why : Decides (row.entry == wanted_row.entry
        || list_any (λ other. other == wanted) row.extra || list_any (λ other. other == number) wanted_row.extra
        || list_any (holds_section row route.phase) wanted_row.sections
        || list_any (holds_point_elsewhere row route.phase) wanted_row.needs) (WhyBlocks wanted wanted_row number row route)
    why = equally _ _ _ (or_decide _ _ _ _ (or_decide _ _ _ _ (or_decide _ _ _ _ (or_decide _ _ _ _ (equal_decides row.entry wanted_row.entry) (among_decides row.extra wanted))
        (among_decides wanted_row.extra number)) (any_decides (holds_section row route.phase) (HoldsSection row route.phase) wanted_row.sections (section_decides row route.phase))) elsewhere)
        to_right to_left

-- the first of these rows and routes that blocks another
abbrev IsFirstAt : ℕ → Row → ℕ → List Row → List RouteState → ℕ → Type 0
IsFirstAt wanted wanted_row number rows routes place =
    ((row : Row) × (route : RouteState) × ((slice_get rows place ≡ Some row) × (slice_get routes place ≡ Some route)) × BlocksBy wanted wanted_row (number + place) row route)
    × ((other : ℕ) → other < place → (row : Row) (route : RouteState) → slice_get rows other ≡ Some row → slice_get routes other ≡ Some route → BlocksBy wanted wanted_row (number + other) row route → ⊥)

abbrev NoneAt : ℕ → Row → ℕ → List Row → List RouteState → Type 0
NoneAt wanted wanted_row number rows routes =
    (other : ℕ) (row : Row) (route : RouteState) → slice_get rows other ≡ Some row → slice_get routes other ≡ Some route → BlocksBy wanted wanted_row (number + other) row route → ⊥

abbrev Found : ℕ → Row → ℕ → List Row → List RouteState → Option ℕ → Type 0
Found wanted wanted_row number rows routes None = NoneAt wanted wanted_row number rows routes
Found wanted wanted_row number rows routes (Some blocking) = (place : ℕ) × (blocking ≡ number + place) × IsFirstAt wanted wanted_row number rows routes place

-- what is found after a route that doesn't block
behind : (wanted : ℕ) (wanted_row : Row) (number : ℕ) (row : Row) (route : RouteState) (rows : List Row) (routes : List RouteState) (found : Option ℕ) →
    (BlocksBy wanted wanted_row number row route → ⊥) → Found wanted wanted_row (suc number) rows routes found → Found wanted wanted_row number (row ∷ rows) (route ∷ routes) found
behind wanted wanted_row number row route rows routes None free is = none where
  none : NoneAt wanted wanted_row number (row ∷ rows) (route ∷ routes)
  none zero other state one two blocking = free (subst (λ r. BlocksBy wanted wanted_row number r route) (sym (same_Some _ _ one)) (subst (λ r. BlocksBy wanted wanted_row number other r) (sym (same_Some _ _ two)) (subst (λ n. BlocksBy wanted wanted_row n other state) (omega arith) blocking)))
  none (suc place) other state one two blocking = is place other state one two (subst (λ n. BlocksBy wanted wanted_row n other state) (omega arith) blocking)
behind wanted wanted_row number row route rows routes (Some blocking) free (place, told, (found, before)) =
    (suc place, told ∙ omega arith, ((found.0, found.1, found.2, subst (λ n. BlocksBy wanted wanted_row n found.0 found.1) (omega arith) found.3), none))
  where
    none : (other : ℕ) → other < suc place → (r : Row) (s : RouteState) → slice_get (row ∷ rows) other ≡ Some r → slice_get (route ∷ routes) other ≡ Some s → BlocksBy wanted wanted_row (number + other) r s → ⊥
    none zero less r s one two by = free (subst (λ x. BlocksBy wanted wanted_row number x route) (sym (same_Some _ _ one)) (subst (λ x. BlocksBy wanted wanted_row number r x) (sym (same_Some _ _ two)) (subst (λ n. BlocksBy wanted wanted_row n r s) (omega arith) by)))
    none (suc other) less r s one two by = before other (omega (arith, less)) r s one two (subst (λ n. BlocksBy wanted wanted_row n r s) (omega arith) by)

found_first : (wanted : ℕ) (wanted_row : Row) (number : ℕ) (rows : List Row) (routes : List RouteState) →
    Found wanted wanted_row number rows routes (first_blocking wanted wanted_row number rows routes)
found_first wanted wanted_row number [] routes = λ other row route one. absurd (none_is one)
found_first wanted wanted_row number (row ∷ rows) [] = λ other r route one two. absurd (none_is two)
found_first wanted wanted_row number (row ∷ rows) (route ∷ routes) =
    by_test (blocks wanted wanted_row number row route) refl (found_first wanted wanted_row (suc number) rows routes)
  where
    by_test : (b : Bool) → blocks wanted wanted_row number row route ≡ b → Found wanted wanted_row (suc number) rows routes (first_blocking wanted wanted_row (suc number) rows routes) →
        Found wanted wanted_row number (row ∷ rows) (route ∷ routes) (if b then Some number else first_blocking wanted wanted_row (suc number) rows routes)
    by_test true is rest = (0, omega arith, ((row, route, (refl, refl), subst (λ n. BlocksBy wanted wanted_row n row route) (omega arith) ((blocks_decides wanted wanted_row number row route).yes is)), λ other less. absurd (omega (arith, less))))
    by_test false is rest = behind wanted wanted_row number row route rows routes _ (no _ _ (blocks_decides wanted wanted_row number row route) is) rest

by_relation : (table : Table) (ixl : IxlState) (number wanted : ℕ) (row : Row) → (one : Row) (state : RouteState) → IsRouteOf table ixl number one state →
    BlocksBy wanted row number one state → Blocks table ixl number wanted row
by_relation table ixl number wanted row one state is b = record { row = one; route = state; is_route = is; other = b.other; set = b.set; why = b.why }

-- what blocks a route is found
pub none_found : (table : Table) (ixl : IxlState) (number : ℕ) (row : Row) → first_blocking number row 0 table.rows ixl.routes ≡ None →
    (other : ℕ) → Blocks table ixl other number row → ⊥
none_found table ixl number row is other b =
    subst (Found number row 0 table.rows ixl.routes) is (found_first number row 0 table.rows ixl.routes) other b.row b.route b.is_route.0 b.is_route.1
    (subst (λ n. BlocksBy number row n b.row b.route) (omega arith) (record { other = b.other; set = b.set; why = b.why }))

pub first_found : (table : Table) (ixl : IxlState) (number : ℕ) (row : Row) (blocking : ℕ) → first_blocking number row 0 table.rows ixl.routes ≡ Some blocking →
    IsFirstBlocking table ixl number row blocking
first_found table ixl number row blocking is = at (subst (Found number row 0 table.rows ixl.routes) is (found_first number row 0 table.rows ixl.routes)) where
  from_first : (place : ℕ) → blocking ≡ 0 + place → blocking ≡ place
  from_first place told = omega (arith, told)

  at : Found number row 0 table.rows ixl.routes (Some blocking) → IsFirstBlocking table ixl number row blocking
  at (place, told, (found, before)) = (
    by_relation table ixl blocking number row found.0 found.1 (subst (λ n. IsRouteOf table ixl n found.0 found.1) (sym (from_first place told)) found.2)
        (subst (λ n. BlocksBy number row n found.0 found.1) (sym told) found.3),
    λ other less b. before other (omega (arith, told, less)) b.row b.route b.is_route.0 b.is_route.1
        (subst (λ n. BlocksBy number row n b.row b.route) (omega arith) (record { other = b.other; set = b.set; why = b.why })),
  )
