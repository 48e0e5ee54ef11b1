-- Where no set route blocks a route, no whole one conflicts with it.
use Rattle.std.proofs.Common.{inl, inr, ◌≡◌, ◌⊎◌, ℕ, zero, suc, ◌+◌, ◌<◌, ◌≤◌, Bool, true, false, not, if◌then◌else◌, List, [], ◌∷◌, length, drop, refl, sym, ap, subst, ◌∙◌, arith}
use Rattle.std.specs.Prelude.{◌&&◌, ◌||◌, ◌==◌, nat_lt, Option, Some, None, slice_get}
use Rattle.std.specs.List.{list_all, list_any}
use Rattle.std.proofs.lemmas.Option.{slice_get_cases, slice_get_within}
use Rattle.std.specs.Prelude.{get_or}
use Rattle.std.proofs.lemmas.Bool.{true≢false, false≢true, eqb-true}
use Rattle.std.proofs.lemmas.Option.{same_Some}
use Rattle.ixl_spec.specs.Table.{Need, Row, Table, is_same_side}
use Rattle.ixl_spec.specs.State.{RouteState}
use Rattle.ixl_spec.specs.View.{blocks, first_blocking, freed_sections, holds_need, holds_point_elsewhere, holds_section, is_set}
use Rattle.ixl_spec.specs.declared.phase.Phase.{Phase as RoutePhase}
use Rattle.ixl_spec.specs.declared.phase.Phase.TheVariants as phase
use Rattle.simulator_machine.specs.Lists.{is_same}
use Rattle.simulator_machine.specs.Route.{is_whole}
use Rattle.simulator_move_laws.specs.Nodes.{phase_seen, route_seen}
use Rattle.simulator_move_laws.specs.Rows.{AreHeldAtFirst, is_elsewhere, machine_table, row_at, row_or_none, rows_conflict, some_pair}
use Rattle.simulator_move_laws.proofs.Interlocking.Tests.{both_true, not_true, true_both}
use Rattle.simulator_move_laws.proofs.Interlocking.Changes.{same_self}
use Rattle.simulator_move_laws.proofs.Interlocking.Guards.{all_shown, or_left, or_right}
use Rattle.simulator_move_laws.proofs.Interlocking.Tables.{either, elsewhere_swap, equal_swap}

-- where none blocks, none does at any place
none_at : (wanted : ℕ) (wanted_row : Row) (start : ℕ) (rows : List Row) (routes : List RouteState) (n : ℕ) (row : Row) (route : RouteState) → first_blocking wanted wanted_row start rows routes ≡ None →
    slice_get rows n ≡ Some row → slice_get routes n ≡ Some route → blocks wanted wanted_row (start + n) row route ≡ false
none_at wanted wanted_row start [] routes n row route none has is = absurd (cc (has))
none_at wanted wanted_row start (first ∷ rows) [] n row route none has is = absurd (cc (is))
none_at wanted wanted_row start (first ∷ rows) (one ∷ routes) n row route none has is = by_first (blocks wanted wanted_row start first one) refl n has is
    (λ k later. none_at wanted wanted_row (suc start) rows routes k row route later)
  where
    by_first : (b : Bool) → blocks wanted wanted_row start first one ≡ b → (n : ℕ) → slice_get (first ∷ rows) n ≡ Some row → slice_get (one ∷ routes) n ≡ Some route →
        ((k : ℕ) → first_blocking wanted wanted_row (suc start) rows routes ≡ None → slice_get rows k ≡ Some row → slice_get routes k ≡ Some route → blocks wanted wanted_row (suc start + k) row route ≡ false) →
        blocks wanted wanted_row (start + n) row route ≡ false
    by_first true e n has is later = absurd (some_none (subst (λ b. (if b then Some start else first_blocking wanted wanted_row (suc start) rows routes) ≡ None) e none)) where
      some_none : Some start ≡ None → ⊥
      some_none e = cc (e)
    by_first false e zero has is later =
        subst (λ k. blocks wanted wanted_row k row route ≡ false) (sym (plus_none start))
        (subst (λ r. blocks wanted wanted_row start r route ≡ false) (same_Some first row has) (subst (λ r. blocks wanted wanted_row start first r ≡ false) (same_Some one route is) e))
      where
        plus_none : (k : ℕ) → k + 0 ≡ k
        plus_none k = omega arith
    by_first false e (suc n) has is later =
        subst (λ k. blocks wanted wanted_row k row route ≡ false) (plus_one start n)
        (later n (subst (λ b. (if b then Some start else first_blocking wanted wanted_row (suc start) rows routes) ≡ None) e none) has is)
      where
        plus_one : (k m : ℕ) → suc k + m ≡ k + suc m
        plus_one k m = omega arith

-- of a whole route nothing is freed, and it is set
whole_is : (p : RoutePhase) → is_whole (phase_seen p) ≡ true → (is_set p ≡ true) × (freed_sections p ≡ 0)
whole_is phase.Free is = absurd (false≢true is)
whole_is phase.Waiting is = (refl, refl)
whole_is phase.Proceeding is = (refl, refl)
whole_is phase.Withdrawn is = (refl, refl)
whole_is (phase.Ended clock done) is = (refl, eqb-true done 0 is)

-- it holds all its sections
holds_all : (row : Row) (p : RoutePhase) (section : ℕ) → is_set p ≡ true → freed_sections p ≡ 0 → list_any (λ other. other == section) row.sections ≡ true → holds_section row p section ≡ true
holds_all row p section set none is = true_both (is_set p) (list_any (λ other. other == section) (drop (freed_sections p) row.sections)) set
    (subst (λ k. list_any (λ other. other == section) (drop k row.sections) ≡ true) (sym none) is)

any_more : {A : Type 0} (some other : A → Bool) (list : List A) → ((one : A) → some one ≡ true → other one ≡ true) → list_any some list ≡ true → list_any other list ≡ true
any_more some other list each is = all_shown some (λ one. true) other list (λ one this all. each one this) (all_true list) is where
  all_true : {A : Type 0} (list : List A) → list_all (λ one. true) list ≡ true
  all_true [] = refl
  all_true (first ∷ others) = all_true others

-- the points of a whole route that another wants elsewhere
elsewhere_held : (row : Row) (p : RoutePhase) (wanted : Need) → is_set p ≡ true → freed_sections p ≡ 0 → list_all (λ need. nat_lt 0 need.until) row.needs ≡ true →
    list_any (is_elsewhere wanted) row.needs ≡ true → holds_point_elsewhere row p wanted ≡ true
elsewhere_held row p wanted set none until is = all_shown (is_elsewhere wanted) (λ (need : Need). nat_lt 0 need.until)
    (λ (need : Need). need.point == wanted.point && not (is_same_side need.side wanted.side) && holds_need p need) row.needs each until is
  where
    each : (need : Need) → is_elsewhere wanted need ≡ true → nat_lt 0 need.until ≡ true → need.point == wanted.point && not (is_same_side need.side wanted.side) && holds_need p need ≡ true
    each need one late = true_both (need.point == wanted.point && not (is_same_side need.side wanted.side)) (holds_need p need) (elsewhere_swap wanted need one)
        (true_both (is_set p) (nat_lt (freed_sections p) need.until) set (subst (λ k. nat_lt k need.until ≡ true) (sym none) late))

swap_test : (listed number : ℕ) → listed == number ≡ true → listed == number ≡ true
swap_test listed number is = is

-- two rows conflict, and the other's route is whole: then it blocks
conflict_blocks : (wanted : ℕ) (wanted_row : Row) (number : ℕ) (row : Row) (route : RouteState) → is_whole (phase_seen route.phase) ≡ true → list_all (λ need. nat_lt 0 need.until) row.needs ≡ true →
    not (is_same wanted number) && rows_conflict wanted wanted_row number row ≡ true → blocks wanted wanted_row number row route ≡ true
conflict_blocks wanted wanted_row number row route whole until is =
    true_both (not (number == wanted) && is_set route.phase) why (true_both (not (number == wanted)) (is_set route.phase) apart held.0) (by_two (either _ _ both.1))
  where
    both : (not (is_same wanted number) ≡ true) × (rows_conflict wanted wanted_row number row ≡ true)
    both = both_true (not (is_same wanted number)) (rows_conflict wanted wanted_row number row) is

    held : (is_set route.phase ≡ true) × (freed_sections route.phase ≡ 0)
    held = whole_is route.phase whole

    apart : not (number == wanted) ≡ true
    apart = cases (number == wanted) refl where
      cases : (b : Bool) → number == wanted ≡ b → not (number == wanted) ≡ true
      cases true e = absurd (true≢false (sym (ap (is_same wanted) (eqb-true number wanted e) ∙ same_self wanted) ∙ not_true (is_same wanted number) both.0))
      cases false e = ap not e

    entry : Bool
    entry = row.entry == wanted_row.entry

    listed : Bool
    listed = list_any (λ other. other == wanted) row.extra

    listing : Bool
    listing = list_any (λ other. other == number) wanted_row.extra

    sections : Bool
    sections = list_any (holds_section row route.phase) wanted_row.sections

    points : Bool
    points = list_any (holds_point_elsewhere row route.phase) wanted_row.needs

    why : Bool
    why = entry || listed || listing || sections || points

    by_two : (((wanted_row.entry == row.entry || some_pair (λ one another. one == another) wanted_row.sections row.sections || some_pair is_elsewhere wanted_row.needs row.needs || list_any (λ listed. listed == number) wanted_row.extra) ≡ true)
        ⊎ (list_any (λ listed. listed == wanted) row.extra ≡ true)) → why ≡ true
    by_two (inr e) = or_left (entry || listed || listing || sections) points (or_left (entry || listed || listing) sections (or_left (entry || listed) listing (or_right entry listed e)))
    by_two (inl e) = by_one (either (wanted_row.entry == row.entry || some_pair (λ one another. one == another) wanted_row.sections row.sections || some_pair is_elsewhere wanted_row.needs row.needs) (list_any (λ listed. listed == number) wanted_row.extra) e) where
      by_entry : (wanted_row.entry == row.entry ≡ true) ⊎ (some_pair (λ one another. one == another) wanted_row.sections row.sections ≡ true) → why ≡ true
      by_entry (inl same) = or_left (entry || listed || listing || sections) points (or_left (entry || listed || listing) sections (or_left (entry || listed) listing (or_left entry listed (equal_swap wanted_row.entry row.entry same))))
      by_entry (inr shared) = or_left (entry || listed || listing || sections) points (or_right (entry || listed || listing) sections
          (any_more (λ section. list_any (λ another. section == another) row.sections) (holds_section row route.phase) wanted_row.sections
          (λ section one. holds_all row route.phase section held.0 held.1 (any_more (λ another. section == another) (λ other. other == section) row.sections (λ other same. equal_swap section other same) one)) shared))

      by_needs : (wanted_row.entry == row.entry || some_pair (λ one another. one == another) wanted_row.sections row.sections ≡ true) ⊎ (some_pair is_elsewhere wanted_row.needs row.needs ≡ true) → why ≡ true
      by_needs (inl before) = by_entry (either (wanted_row.entry == row.entry) (some_pair (λ one another. one == another) wanted_row.sections row.sections) before)
      by_needs (inr needs) = or_right (entry || listed || listing || sections) points
          (any_more (λ need. list_any (is_elsewhere need) row.needs) (holds_point_elsewhere row route.phase) wanted_row.needs (λ need one. elsewhere_held row route.phase need held.0 held.1 until one) needs)

      by_one : (wanted_row.entry == row.entry || some_pair (λ one another. one == another) wanted_row.sections row.sections || some_pair is_elsewhere wanted_row.needs row.needs ≡ true) ⊎ (list_any (λ listed. listed == number) wanted_row.extra ≡ true) → why ≡ true
      by_one (inl before) = by_needs (either (wanted_row.entry == row.entry || some_pair (λ one another. one == another) wanted_row.sections row.sections) (some_pair is_elsewhere wanted_row.needs row.needs) before)
      by_one (inr extra) = or_left (entry || listed || listing || sections) points (or_left (entry || listed || listing) sections (or_right (entry || listed) listing extra))

none_plus : (k : ℕ) → 0 + k ≡ k
none_plus k = omega arith

pub unblocked : (table : Table) (routes : List RouteState) (wanted : ℕ) (wanted_row : Row) (other : ℕ) → AreHeldAtFirst table → length routes ≡ length table.rows → slice_get table.rows wanted ≡ Some wanted_row → first_blocking wanted wanted_row 0 table.rows routes ≡ None →
    is_whole (route_seen (slice_get routes other)) ≡ true → (row : Option Row) → slice_get table.rows other ≡ row → (machine_table table).conflict wanted other ≡ true → ⊥
unfolding machine_table
unblocked table routes wanted wanted_row other at_first counted has none whole row is conflict = by_route (slice_get routes other) refl whole row is where
  by_route : (route : Option RouteState) → slice_get routes other ≡ route → is_whole (route_seen route) ≡ true → (row : Option Row) → slice_get table.rows other ≡ row → ⊥
  by_route None at whole row is = false≢true whole
  by_route (Some route) at whole None is = missing (slice_get_cases table.rows other).1 where
    missing : ((x : Row) × (other < length table.rows) × (slice_get table.rows other ≡ Some x) × (get_or table.rows other x ≡ x)) ⊎ ((length table.rows ≤ other) × (slice_get table.rows other ≡ None)) → ⊥
    missing (inl there) = some_none (sym there.2 ∙ is) where
      some_none : {A : Type 0} {one : A} → Some one ≡ None → ⊥
      some_none e = cc (e)
    missing (inr past) = omega (arith, counted, past.0, slice_get_within routes other route at)
  by_route (Some route) at whole (Some row) is = true≢false (sym (conflict_blocks wanted wanted_row other row route whole (at_first other row is)
      (subst (λ r. not (is_same wanted other) && rows_conflict wanted wanted_row other r ≡ true) (ap row_or_none is)
      (subst (λ r. not (is_same wanted other) && rows_conflict wanted r other (row_at table other) ≡ true) (ap row_or_none has) conflict)))
      ∙ subst (λ k. blocks wanted wanted_row k row route ≡ false) (none_plus other) (none_at wanted wanted_row 0 table.rows routes other row route none is at))
