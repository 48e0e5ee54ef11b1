-- A route over which a train has gone isn't set any more: its passage lets its next section go, whichever that is.
use Rattle.simulator_recovery.proofs.Words.Basics.{◌≡◌, ◌≢◌, ◌⊎◌, inl, inr, ℕ, suc, ◌<◌, ◌==◌, ◌&&◌, Bool, true, false, List, length, Option, Some, None, slice_get, refl, sym, ap, subst, ◌∙◌, arith, nat_tests, none-some, ⊎_elim, ◌≤◌, IsTrue, get_or, map, contains, cases_lt, slice_get-get_or}
use Rattle.simulator_recovery.proofs.Words.Links.{reading_of}
use Rattle.simulator_recovery.proofs.Words.Interlockings.{At, Freeable, IsClear, IsRouteOf, SomeFreeable, authorised, count, ended, freed, freed_by_cancel, freed_by_passage, freeing_by_cancel, freeing_by_passage, freeing_next, frees_cancelled, frees_next, is_move_due, is_proceed_due, moved, moving, moving_one, one_freed, proceeding, ruled, IxlState, KnownDetectorState, RouteState, changed, Input, all_clocked, given, stepped, ticked, watching, StepSoFar, begun_with, empty_outbox, giving_aspect, giving_move, over, with_route, Need, Row, Table, Phase, IsTableOf, as_route, as_section, freed_sections, was_authorised}
use Rattle.simulator_recovery.proofs.Words.Stations.{Site, Beginning, new_ixl, new_route_of, interlocking_stepped, key_of, WorldState, IsReached, AreSections, HasSection, IsStation, RouteId, SectionId}
use Rattle.simulator_recovery.proofs.Words.Recovery.{IsPassed}
use Rattle.std.proofs.Common.{All}
use Rattle.simulator_recovery.proofs.Lemmas.Ground.DueShapes.{along_keeps, each_over, no_route, over_keeps, repeated_keeps, route_keeps, where_keeps}
use Rattle.simulator_recovery.proofs.Lemmas.RoutesComing.DueKnown.{BringsNothing, clear_before, ticks_bring_nothing}
use Rattle.simulator_recovery.proofs.Lemmas.Ground.IxlAlways.{always_whole}
use Rattle.simulator_recovery.proofs.Lemmas.Ground.IxlClients.{changed_at, mapped_at}
use Rattle.simulator_recovery.proofs.Lemmas.RoutesComing.NothingDueMoves.{move_leaves}
use Rattle.simulator_recovery.proofs.Lemmas.RoutesComing.NothingDueProceeds.{aspect_leaves}
use Rattle.simulator_recovery.proofs.Lemmas.RoutesGoing.PassageFits.{EachRoute, passage_held, seen_held, two_rules, Fits, fits_keep, looks_fit, new_fits, stepped_fits}
use Rattle.simulator_recovery.proofs.Lemmas.Silence.Spent.{within_some}
use Rattle.simulator_recovery.proofs.Lemmas.Lamps.StopsGiven.{changed_elsewhere, differs, is_equal}
use Rattle.simulator_recovery.proofs.Lemmas.Ground.EndCalls.{map_length}
use Rattle.simulator_recovery.proofs.Lemmas.RoutesGoing.PassageLooks.{WasSeen}
use Rattle.simulator_recovery.proofs.Lemmas.RoutesGoing.PassageSeen.{IsKnownSo, saw_so}

-- ---- no section of a route waits that its passage lets go: it is freed in the step in which its passage does

-- that the third rule frees all that it may
abbrev pub PassageLaw : Type 0
PassageLaw = (table : Table) (number : ℕ) (part : StepSoFar) (row : Row) (route after : RouteState) → IsRouteOf table part.ixl number row route → IsRouteOf table (freeing_by_passage table number part).ixl number row after
    → after.passage.sections ≡ length row.sections → SomeFreeable table (freeing_by_passage table number part).ixl row after → ⊥

abbrev pub NoneLetGo : Table → ℕ → IxlState → Type 0
NoneLetGo table number ixl = (row : Row) (route : RouteState) → IsRouteOf table ixl number row route → SomeFreeable table ixl row route → ⊥

-- a passage lets a section go where the detectors are the same
lets_go_still : (table : Table) (old new : IxlState) (row : Row) (route : RouteState) → new.detectors ≡ old.detectors → SomeFreeable table new row route → SomeFreeable table old row route
lets_go_still table old new row route detectors (place, may) = (
  place,
  record {
    clock = may.clock;
    ended = may.ended;
    reached = may.reached;
    left = may.left;
    clear = subst (λ (ds : List KnownDetectorState). At row.sections place (IsClear table (record new { detectors = ds }))) detectors may.clear;
    next = may.next;
  },
)

module _ (now : ℕ) (table : Table) where
  -- ---- the third rule

  none_there : (number : ℕ) (part : StepSoFar) → slice_get part.ixl.routes number ≡ None → freeing_by_passage table number part ≡ part
  unfolding freeing_by_passage
  none_there number part none = no_route table number _ part none

  own_turn : PassageLaw → (number : ℕ) (part : StepSoFar) → EachRoute Fits table (freeing_by_passage table number part).ixl.routes → NoneLetGo table number (freeing_by_passage table number part).ixl
  own_turn law number part fit row route is may = by_found (slice_get part.ixl.routes number) refl
    where
      by_found : (found : Option RouteState) → slice_get part.ixl.routes number ≡ found → ⊥
      by_found None e = none-some route (sym (ap (λ (q : StepSoFar). slice_get q.ixl.routes number) (none_there number part e) ∙ e) ∙ is.1)
      by_found (Some was) e = law table number part row was route (is.0, e) is (fit number row route is.0 is.1).over may

  next_elsewhere : (k number : ℕ) → k ≢ number → (part : StepSoFar) → NoneLetGo table k part.ixl → NoneLetGo table k (freeing_next table number part).ixl
  unfolding freeing_next
  next_elsewhere k number differ part none = route_keeps Q table number _ part (λ row route there here. where_keeps Q (frees_next table part.ixl row route route.phase) part _ (λ due. elsewhere (one_freed row route.phase)) none) none
    where
      Q : StepSoFar → Type 0
      Q q = NoneLetGo table k q.ixl

      elsewhere : (change : RouteState → RouteState) → NoneLetGo table k (with_route number change part).ixl
      elsewhere change row route there may =
          none row route (there.0, sym (changed_elsewhere change number k part.ixl.routes differ) ∙ there.1) (lets_go_still table part.ixl (with_route number change part).ixl row route refl may)

  another_turn : (k number : ℕ) (part : StepSoFar) → k ≢ number → NoneLetGo table k part.ixl → NoneLetGo table k (freeing_by_passage table number part).ixl
  unfolding freeing_by_passage
  another_turn k number part differ none = route_keeps Q table number _ part (λ row route there here. repeated_keeps Q (length row.sections) (freeing_next table number) (next_elsewhere k number differ) part none) none
    where
      Q : StepSoFar → Type 0
      Q q = NoneLetGo table k q.ixl

  -- after the turns of so many routes
  record Behind (n : ℕ) (part : StepSoFar) : Type 0 where
    fit : EachRoute Fits table part.ixl.routes
    none : (number : ℕ) → number < n → NoneLetGo table number part.ixl

  one_more : PassageLaw → (n : ℕ) (part : StepSoFar) → Behind n part → Behind (suc n) (freeing_by_passage table n part)
  one_more law n part is = record { fit = fit; none = λ number few. decide number few (number == n) refl }
    where
      fit : EachRoute Fits table (freeing_by_passage table n part).ixl.routes
      fit = passage_held now table Fits fits_keep n part is.fit

      fewer : (number : ℕ) → number < suc n → (number == n) ≡ false → number < n
      fewer number few e = grind (arith, nat_tests, e, few)

      decide : (number : ℕ) → number < suc n → (b : Bool) → (number == n) ≡ b → NoneLetGo table number (freeing_by_passage table n part).ixl
      decide number few true e = subst (λ (m : ℕ). NoneLetGo table m (freeing_by_passage table n part).ixl) (sym (is_equal number n e)) (own_turn law n part fit)
      decide number few false e = another_turn number n part (differs number n e) (is.none number (fewer number few e))

  -- ---- the rules after it

  -- a route whose authority isn't ended after a change lets nothing go
  changed_then : (k number : ℕ) (change : RouteState → RouteState) (old new : IxlState) → ((was : RouteState) (clock done : ℕ) → (change was).phase ≡ Phase.Ended clock done → ⊥)
      → new.routes ≡ changed change number old.routes → new.detectors ≡ old.detectors → NoneLetGo table k old → NoneLetGo table k new
  changed_then k number change old new never routes detectors none row route is may = choose (changed_at change number old.routes k route (ap (λ (rs : List RouteState). slice_get rs k) (sym routes) ∙ is.1))
    where
      choose : ((k ≡ number) × (was : RouteState) × (slice_get old.routes number ≡ Some was) × (route ≡ change was)) ⊎ (slice_get old.routes k ≡ Some route) → ⊥
      choose (inl (same, was, e, so)) = never was may.1.clock may.0 (ap (λ (r : RouteState). r.phase) (sym so) ∙ may.1.ended)
      choose (inr e) = none row route (is.0, e) (lets_go_still table old new row route detectors may)

  cancel_leaves : (k number : ℕ) (part : StepSoFar) → NoneLetGo table k part.ixl → NoneLetGo table k (freeing_by_cancel now table number part).ixl
  unfolding freeing_by_cancel
  cancel_leaves k number part none = route_keeps Q table number _ part (λ row route there here. where_keeps Q (route.cancelled && frees_cancelled now table part.ixl row route route.phase) part _
      (λ due. changed_then k number freed part.ixl (with_route number freed part).ixl (λ was clock done e. cc e) refl refl none) none) none
    where
      Q : StepSoFar → Type 0
      Q q = NoneLetGo table k q.ixl

  moving_leaves : (k number : ℕ) (part : StepSoFar) → NoneLetGo table k part.ixl → NoneLetGo table k (moving now table number part).ixl
  unfolding moving moving_one
  moving_leaves k number part none = route_keeps Q table number _ part (λ row one there here. along_keeps Q (moving_one now table number)
      (λ need q is. route_keeps Q table number _ q (λ other route other_there route_here. where_keeps Q (is_move_due table q.ixl number route need) q _ (λ due. moved_leaves need q is) is) is) row.needs part none) none
    where
      Q : StepSoFar → Type 0
      Q q = NoneLetGo table k q.ixl

      moved_leaves : (need : Need) (q : StepSoFar) → Q q → Q (giving_move now need.point need.side q)
      moved_leaves need q is row route there may =
          let leaves = move_leaves now need.point need.side q
          in is row route (there.0, ap (λ (routes : List RouteState). slice_get routes k) (sym leaves.routes) ∙ there.1) (lets_go_still table q.ixl (giving_move now need.point need.side q).ixl row route leaves.detectors may)

  proceeding_leaves : (k number : ℕ) (part : StepSoFar) → NoneLetGo table k part.ixl → NoneLetGo table k (proceeding now table number part).ixl
  unfolding proceeding
  proceeding_leaves k number part none = route_keeps Q table number _ part (λ row route there here. where_keeps Q (is_proceed_due now table part.ixl row route) part _ (λ due. given_leaves row) none) none
    where
      Q : StepSoFar → Type 0
      Q q = NoneLetGo table k q.ixl

      given_leaves : (row : Row) → Q (giving_aspect now row.entry row.aspect (with_route number (authorised table part.ixl row) part))
      given_leaves row =
          let leaves = aspect_leaves now row.entry row.aspect (with_route number (authorised table part.ixl row) part)
          in changed_then k number (authorised table part.ixl row) part.ixl (giving_aspect now row.entry row.aspect (with_route number (authorised table part.ixl row) part)).ixl (λ was clock done e. cc e) leaves.routes leaves.detectors none

  none_behind : PassageLaw → (part : StepSoFar) → EachRoute Fits table (ended now table part).ixl.routes → (number : ℕ) → NoneLetGo table number (ruled now table part).ixl
  none_behind law part fit number row route is = over_keeps Q (proceeding now table) (proceeding_leaves number) (count table) (moved now table part)
      (over_keeps Q (moving now table) (moving_leaves number) (count table) (freed_by_cancel now table part)
      (over_keeps Q (freeing_by_cancel now table) (cancel_leaves number) (count table) (freed_by_passage now table part)
      (passed.none number (within_some table.rows number row is.0)))) row route is
    where
      Q : StepSoFar → Type 0
      Q q = NoneLetGo table number q.ixl

      passed : Behind (count table) (freed_by_passage now table part)
      passed = each_over Behind (freeing_by_passage table) (one_more law) (count table) (ended now table part) (record { fit = fit; none = λ k few. absurd (omega (arith, few)) })

-- ---- each step, and every list of events

-- No route waits of which a section may be freed, and each passage leads over the sections of its row.
pub record NoneWaits (table : Table) (ixl : IxlState) : Type 0 where
  pub fit : EachRoute Fits table ixl.routes
  pub none : (number : ℕ) → NoneLetGo table number ixl

module _ (law : PassageLaw) (site : Site) (table : Table) (input : Input) (world : WorldState) (fit : EachRoute Fits table world.interlocking.ixl.routes) where
  abbrev at_clock : ℕ
  at_clock = reading_of world.interlocking.clock

  begins : StepSoFar
  begins = begun_with world.interlocking.ixl empty_outbox

  seen : StepSoFar
  seen = over (watching table) (count table) (given at_clock table (key_of site) input (record begins { ixl = all_clocked at_clock begins.ixl }))

  abbrev rules : StepSoFar
  rules = ruled at_clock table seen

  brings : BringsNothing rules.ixl (ticked at_clock input rules).ixl
  brings = ticks_bring_nothing at_clock input rules

  fit_then : EachRoute Fits table (ended at_clock table seen).ixl.routes
  unfolding begins seen
  fit_then = two_rules at_clock table Fits fits_keep seen (seen_held at_clock table Fits fits_keep looks_fit (key_of site) input begins fit)

  step_none : (number : ℕ) → NoneLetGo table number (interlocking_stepped site table input world).interlocking.ixl
  unfolding interlocking_stepped stepped begins seen
  step_none number row route is (place, may) = none_behind at_clock table law seen fit_then number row route (is.0, ap (λ (routes : List RouteState). slice_get routes number) (sym brings.routes) ∙ is.1) (
    place,
    record {
      clock = may.clock;
      ended = may.ended;
      reached = may.reached;
      left = may.left;
      clear = (may.clear.0, may.clear.1, clear_before table rules.ixl _ brings may.clear.0 may.clear.2);
      next = may.next;
    },
  )

step_waits : PassageLaw → (site : Site) (table : Table) (input : Input) (world : WorldState) → NoneWaits table world.interlocking.ixl → NoneWaits table (interlocking_stepped site table input world).interlocking.ixl
step_waits law site table input world is = record { fit = stepped_fits site table input world is.fit; none = step_none law site table input world is.fit }

new_waits : (site : Site) (table : Table) (begins : Beginning) → NoneWaits table (new_ixl site table begins)
unfolding new_ixl
new_waits site table begins = record {
  fit = new_fits site table begins;
  none = λ number row route is may. let found = mapped_at new_route_of table.rows number route is.1 in cc (ap (λ (r : RouteState). r.phase) (sym found.2) ∙ may.1.ended);
}

pub none_waits : PassageLaw → (site : Site) (table : Table) (world : WorldState) → IsReached site table world → NoneWaits table world.interlocking.ixl
none_waits law site table = always_whole site table (NoneWaits table) (new_waits site table) (step_waits law site table)

pub no_section_waits : PassageLaw → (site : Site) (table : Table) (world : WorldState) (number place : ℕ) (row : Row) (route : RouteState) → IsReached site table world → IsRouteOf table world.interlocking.ixl number row route
    → Freeable table world.interlocking.ixl row route place → ⊥
no_section_waits law site table world number place row route reached is may = (none_waits law site table world reached).none number row route is (place, may)

-- ---- a route over which a train has gone isn't set any more: its passage lets its next section go, whichever that is

pub seen_so : (busy : Bool) (site : Site) (table : Table) (world : WorldState) (number place section : ℕ) (row : Row) (route : RouteState) → IsStation site → IsTableOf site table → IsReached site table world
    → IsRouteOf table world.interlocking.ixl number row route → was_authorised route.phase ≡ true → slice_get row.sections place ≡ Some section → IsKnownSo busy table world.interlocking.ixl section → WasSeen busy route.passage place
seen_so busy site table world number place section row route station is_table reached is authorised stands known = saw_so busy site table world station is_table reached number row route is.0 is.1 authorised place section stands known

-- that a route leads over some sections
abbrev pub SectionsLaw : Type 0
SectionsLaw = (l : Site) → IsStation l → (a : RouteId) (ss : List SectionId) → AreSections l a ss → (1 ≤ length ss) × (length ss ≤ 64) × All (HasSection l) ss

pub passed_free : PassageLaw → SectionsLaw → (site : Site) (table : Table) (world : WorldState) (number clock done : ℕ) (row : Row) (route : RouteState) → IsStation site → IsTableOf site table → IsReached site table world
    → IsRouteOf table world.interlocking.ixl number row route → IsPassed table world.interlocking.ixl row route → route.phase ≡ Phase.Ended clock done → ⊥
passed_free law some site table world number clock done row route station is_table reached is passed ends = waits.none number row route is (done, may)
  where
    waits : NoneWaits table world.interlocking.ixl
    waits = none_waits law site table world reached

    fits : Fits row route
    fits = waits.fit number row route is.0 is.1

    one_there : 0 < length row.sections
    one_there =
        let at_least = (some site station (as_route number) (map as_section row.sections) (is_table.rows.their number row is.0).sections).0
        in let same = map_length as_section row.sections
        in omega (arith, at_least, same)

    left : done < length row.sections
    left = let below = fits.some_left one_there in let so = ap freed_sections ends in omega (arith, below, so)

    stands : slice_get row.sections done ≡ Some (get_or row.sections done 0)
    stands = slice_get-get_or row.sections done 0 left

    clear : IsClear table world.interlocking.ixl (get_or row.sections done 0)
    clear = passed.clear done 0 left

    next : (suc done ≡ length row.sections) ⊎ IsTrue (contains route.passage.seen (suc done))
    next = ⊎_elim (λ more. inr (passed.seen (suc done) more)) (λ last. inl (omega (arith, last, left))) (cases_lt (suc done) (length row.sections))

    may : Freeable table world.interlocking.ixl row route done
    may = record {
      clock = clock;
      ended = ends;
      reached = passed.seen done left;
      left = seen_so false site table world number done (get_or row.sections done 0) row route station is_table reached is (ap was_authorised ends) stands clear;
      clear = (get_or row.sections done 0, stands, clear);
      next = next;
    }
