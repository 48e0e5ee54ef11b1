-- What an accepted request of a route leaves after it.
use Rattle.simulator_recovery.proofs.Words.Basics.{◌≡◌, ◌⊎◌, inl, inr, ℕ, ◌==◌, ◌&&◌, Bool, true, false, List, Option, Some, None, slice_get, refl, sym, ap, subst, ◌∙◌, not, nat_cmp_total, unsigned_tied, contains, contains-remove, remove, Contains, eq-eqb, All-contains, same_Some}
use Rattle.simulator_recovery.proofs.Words.Links.{reading_of}
use Rattle.simulator_recovery.proofs.Words.Controllers.{Side}
use Rattle.simulator_recovery.proofs.Words.Interlockings.{LiesInClosed, is_available, commanded_by, obeyed, refusal, request_refusal, set_anew, unmoved_for, Admissible, AllClear, AllKnown, At, IsAvailable, IsClear, IsHeldWithAuthority, Known, authorised, come_to, count, ended, ending_authority, freed_by_cancel, freed_by_passage, freeing_by_cancel, freeing_by_passage, freeing_next, frees_cancelled, frees_next, is_move_due, is_proceed_due, is_stop_due, is_withdrawn, moved, moving, moving_one, proceeding, ruled, withdrawing, withdrawn, IxlState, KnownDetectorState, KnownPointState, RouteState, changed, Commands, all_clocked, given, reply, stepped, ticked, watching, StepSoFar, begun_with, empty_outbox, giving_aspect, giving_move, over, with_route, Need, Row, Table, is_at_known_stop, Command, Refusal, Phase, moved_at_once}
use Rattle.simulator_spec.specs.ixl_spec.closings.declared.closed.Closings.{Closings}
use Rattle.simulator_spec.specs.ixl_spec.Operations.{need_thing, things_used}
use Rattle.simulator_recovery.proofs.Lemmas.RoutesComing.NeedsUsed.{need_is_used}
use Rattle.simulator_recovery.proofs.Words.Stations.{Places, Site, RouteId, Event, Answer, answered, happens, interlocking_stepped, WorldState}
use Rattle.simulator_recovery.proofs.Words.Recovery.{HasAspect, Waits, MoveLaw, RequestLaw}
use Rattle.simulator_recovery.proofs.Lemmas.Lamps.Cancelled.{not_refused}
use Rattle.simulator_recovery.proofs.Lemmas.RoutesComing.DueCourse.{at_changed, stopped_leaves, until_moved, waits_held, waits_keep, watching_held}
use Rattle.simulator_recovery.proofs.Lemmas.Ground.DueShapes.{along_keeps, over_keeps, passage_keeps, route_keeps, where_keeps}
use Rattle.simulator_recovery.proofs.Lemmas.Ground.DueTests.{known_or_not, known_surely, known_then}
use Rattle.simulator_recovery.proofs.Lemmas.Ground.IxlClients.{mapped_at}
use Rattle.simulator_recovery.proofs.Lemmas.RoutesComing.NothingDueMoves.{MoveLeaves, move_leaves, moved_point, step_none}
use Rattle.simulator_recovery.proofs.Lemmas.RoutesComing.NothingDueProceeds.{AspectLeaves, aspect_leaves}
use Rattle.simulator_recovery.proofs.Lemmas.Lamps.StopsGiven.{changed_elsewhere, changed_here, differs, is_equal}

-- ---- what the rules leave of points and detectors, and of what is closed

abbrev pub FieldStands : IxlState → StepSoFar → Type 0
FieldStands old part = (part.ixl.known_points ≡ old.known_points) × (part.ixl.detectors ≡ old.detectors) × (part.ixl.closed ≡ old.closed)

-- no point that is available was moved since this route was set, and each that was known before it is known at the same side
abbrev Unmoved : IxlState → ℕ → List KnownPointState → Type 0
Unmoved old k points = (place : ℕ) (known : KnownPointState) → slice_get points place ≡ Some known → is_available known.client.stage ≡ true
    → (contains known.moved k ≡ false) × ((side : Side) → Known old place side → known.side ≡ Some side)

module _ (now : ℕ) (table : Table) (old : IxlState) where
  withdrawing_stands : (number : ℕ) (part : StepSoFar) → FieldStands old part → FieldStands old (withdrawing now table number part)
  unfolding withdrawing
  withdrawing_stands number part is = route_keeps (FieldStands old) table number _ part (λ row route there here. where_keeps (FieldStands old) (is_stop_due table part.ixl row route) part _
      (λ due. let leaves = stopped_leaves now row (with_route number (come_to Phase.Withdrawn) part) in (leaves.points ∙ is.0, leaves.detectors ∙ is.1, leaves.closed ∙ is.2)) is) is

  ending_stands : (number : ℕ) (part : StepSoFar) → FieldStands old part → FieldStands old (ending_authority now table number part)
  unfolding ending_authority
  ending_stands number part is = route_keeps (FieldStands old) table number _ part (λ row route there here. where_keeps (FieldStands old) (is_withdrawn route.phase && is_at_known_stop now part.ixl row.entry) part _ (λ due. is) is) is

  next_stands : (number : ℕ) (part : StepSoFar) → FieldStands old part → FieldStands old (freeing_next table number part)
  unfolding freeing_next
  next_stands number part is = route_keeps (FieldStands old) table number _ part (λ row route there here. where_keeps (FieldStands old) (frees_next table part.ixl row route route.phase) part _ (λ due. is) is) is

  passage_stands : (number : ℕ) (part : StepSoFar) → FieldStands old part → FieldStands old (freeing_by_passage table number part)
  passage_stands = passage_keeps (FieldStands old) now table next_stands

  cancel_stands : (number : ℕ) (part : StepSoFar) → FieldStands old part → FieldStands old (freeing_by_cancel now table number part)
  unfolding freeing_by_cancel
  cancel_stands number part is = route_keeps (FieldStands old) table number _ part (λ row route there here. where_keeps (FieldStands old) (route.cancelled && frees_cancelled now table part.ixl row route route.phase) part _ (λ due. is) is) is

  pub until_freed : (part : StepSoFar) → FieldStands old part → FieldStands old (freed_by_cancel now table part)
  until_freed part is =
      over_keeps (FieldStands old) (freeing_by_cancel now table) cancel_stands (count table) (freed_by_passage now table part)
      (over_keeps (FieldStands old) (freeing_by_passage table) passage_stands (count table) (ended now table part)
      (over_keeps (FieldStands old) (ending_authority now table) ending_stands (count table) (withdrawn now table part)
      (over_keeps (FieldStands old) (withdrawing now table) withdrawing_stands (count table) part is)))

  -- a point that is given a move isn't available
  abbrev StillUnmoved : ℕ → StepSoFar → Type 0
  StillUnmoved k part = Unmoved old k part.ixl.known_points × (part.ixl.detectors ≡ old.detectors) × (part.ixl.closed ≡ old.closed)

  given_unmoved : (k point : ℕ) (side : Side) (part : StepSoFar) → StillUnmoved k part → StillUnmoved k (giving_move now point side part)
  given_unmoved k point side part is = ((λ place known e available. decide place known e available (place == point) refl), leaves.detectors ∙ is.1, leaves.closed ∙ is.2)
    where
      leaves : MoveLeaves point part.ixl (giving_move now point side part).ixl
      leaves = move_leaves now point side part

      decide : (place : ℕ) (known : KnownPointState) → slice_get (giving_move now point side part).ixl.known_points place ≡ Some known → is_available known.client.stage ≡ true → (b : Bool) → (place == point) ≡ b
          → (contains known.moved k ≡ false) × ((side : Side) → Known old place side → known.side ≡ Some side)
      decide place known e available true same = absurd (moved_point now point side part (known, ap (slice_get (giving_move now point side part).ixl.known_points) (sym (is_equal place point same)) ∙ e, available))
      decide place known e available false differ = is.0 place known (sym (leaves.points place (differs place point differ)) ∙ e) available

  moving_unmoved : (k number : ℕ) (part : StepSoFar) → StillUnmoved k part → StillUnmoved k (moving now table number part)
  unfolding moving moving_one
  moving_unmoved k number part is = route_keeps (StillUnmoved k) table number _ part (λ row route there here. along_keeps (StillUnmoved k) (moving_one now table number)
      (λ need q held. route_keeps (StillUnmoved k) table number _ q (λ other one at there_so. where_keeps (StillUnmoved k) (is_move_due table q.ixl number one need) q _ (λ due. given_unmoved k need.point need.side q held) held) held) row.needs part is) is

  -- ---- the last rule

  -- the route waits, or proceeds and its points are known
  abbrev Course : ℕ → Row → StepSoFar → Type 0
  Course k row part = At part.ixl.routes k Waits ⊎ (At part.ixl.routes k HasAspect × AllKnown part.ixl row.needs)

  known_still : (needs : List Need) (one other : IxlState) → other.known_points ≡ one.known_points → AllKnown one needs → AllKnown other needs
  known_still needs one other points all = subst (λ (ps : List KnownPointState). AllKnown (record one { known_points = ps }) needs) (sym points) all

  proceeding_course : (k : ℕ) (row : Row) → slice_get table.rows k ≡ Some row → (number : ℕ) (part : StepSoFar) → StillUnmoved k part × Course k row part → StillUnmoved k (proceeding now table number part) × Course k row (proceeding now table number part)
  unfolding proceeding
  proceeding_course k row row_there number part is = route_keeps Q table number _ part (λ other route there here. where_keeps Q (is_proceed_due now table part.ixl other route) part _ (λ due. given_so other route there here due) is) is
    where
      Q : StepSoFar → Type 0
      Q q = StillUnmoved k q × Course k row q

      given_so : (other : Row) (route : RouteState) → slice_get table.rows number ≡ Some other → slice_get part.ixl.routes number ≡ Some route → is_proceed_due now table part.ixl other route ≡ true
          → Q (giving_aspect now other.entry other.aspect (with_route number (authorised table part.ixl other) part))
      given_so other route there here due = (
        (subst (Unmoved old k) (sym leaves.points) is.0.0, leaves.detectors ∙ is.0.1, leaves.closed ∙ is.0.2),
        choose is.1 (k == number) refl,
      )
        where
          given : StepSoFar
          given = giving_aspect now other.entry other.aspect (with_route number (authorised table part.ixl other) part)

          leaves : AspectLeaves other.entry (with_route number (authorised table part.ixl other) part).ixl given.ixl
          leaves = aspect_leaves now other.entry other.aspect (with_route number (authorised table part.ixl other) part)

          at_k : (F : RouteState → Type 0) → At (changed (authorised table part.ixl other) number part.ixl.routes) k F → At given.ixl.routes k F
          at_k F is_at = subst (λ (routes : List RouteState). At routes k F) (sym leaves.routes) is_at

          choose : Course k row part → (b : Bool) → (k == number) ≡ b → Course k row given
          choose (inl waits) true e =
              let same : k ≡ number = is_equal k number e
              in let same_row : other ≡ row = same_Some other row (sym there ∙ (ap (slice_get table.rows) (sym same) ∙ row_there))
              in inr (
                at_k HasAspect (
                  authorised table part.ixl other waits.0,
                  ap (slice_get (changed (authorised table part.ixl other) number part.ixl.routes)) same
                      ∙ changed_here (authorised table part.ixl other) number part.ixl.routes waits.0 (ap (slice_get part.ixl.routes) (sym same) ∙ waits.1),
                  (refl, waits.2.1),
                ),
                known_still row.needs part.ixl given.ixl leaves.points (subst (λ (r : Row). AllKnown part.ixl r.needs) same_row (known_then now table part.ixl other route due)),
              )
          choose (inl waits) false e = inl (at_k Waits (waits.0, changed_elsewhere (authorised table part.ixl other) number k part.ixl.routes (differs k number e) ∙ waits.1, waits.2))
          choose (inr proceeds) b e = inr (
            at_k HasAspect (at_changed HasAspect k number (authorised table part.ixl other) part.ixl.routes (λ one same at holds. (refl, holds.1)) proceeds.0),
            known_still row.needs part.ixl given.ixl leaves.points proceeds.1,
          )

-- ---- a request that isn't refused

removed : (places : Places) (k : ℕ) → contains (remove places k) k ≡ false
removed places k = contains-remove nat_cmp_total places k k ∙ ap (λ (b : Bool). not b && contains places k) (unsigned_tied k k ∙ eq-eqb k k refl)

-- the route is of the table, and kept
record IsAsked (table : Table) (ixl : IxlState) (k : ℕ) : Type 0 where
  row : Row
  row_there : slice_get table.rows k ≡ Some row
  route : RouteState
  there : slice_get ixl.routes k ≡ Some route

is_asked : (now : ℕ) (table : Table) (ixl : IxlState) (route : RouteId) → refusal now table (Command.Request route) ixl ≡ None → IsAsked table ixl route.0
unfolding refusal
is_asked now table ixl route none = by_found (slice_get table.rows route.0) (slice_get ixl.routes route.0) refl refl none
  where
    by_found : (row : Option Row) (one : Option RouteState) → slice_get table.rows route.0 ≡ row → slice_get ixl.routes route.0 ≡ one → request_refusal now table ixl route.0 row one ≡ None → IsAsked table ixl route.0
    by_found None one e f g = absurd (cc g)
    by_found (Some row) None e f g = absurd (cc g)
    by_found (Some row) (Some one) e f g = record { row = row; row_there = e; route = one; there = f }

-- What stands after an accepted request.
record Accepted (now : ℕ) (table : Table) (old new : IxlState) (k : ℕ) (row : Row) : Type 0 where
  unmoved : Unmoved old k new.known_points
  detectors : new.detectors ≡ old.detectors
  closed : new.closed ≡ old.closed
  course : At new.routes k Waits ⊎ (At new.routes k HasAspect × AllKnown new row.needs)

module _ (site : Site) (table : Table) (world : WorldState) (route : RouteId) where
  abbrev now : ℕ
  now = reading_of world.interlocking.clock

  abbrev clocked : StepSoFar
  clocked = record (begun_with world.interlocking.ixl empty_outbox) { ixl = all_clocked now world.interlocking.ixl }

  abbrev heard_by : Option Refusal → StepSoFar
  heard_by cause = moved_at_once now cause (Command.Request route) (record clocked { ixl = commanded_by now cause (Command.Request route) clocked.ixl })

  abbrev heard : StepSoFar
  heard = heard_by (refusal now table (Command.Request route) clocked.ixl)

  abbrev Set : StepSoFar → Type 0
  Set part = (Unmoved clocked.ixl route.0 part.ixl.known_points × (part.ixl.detectors ≡ clocked.ixl.detectors) × (part.ixl.closed ≡ clocked.ixl.closed)) × At part.ixl.routes route.0 Waits

  obeyed_set : (one : RouteState) → slice_get clocked.ixl.routes route.0 ≡ Some one → Set (heard_by None)
  unfolding obeyed moved_at_once
  obeyed_set one there = (
    (
      (λ place known e available. let found = mapped_at (unmoved_for route.0) clocked.ixl.known_points place known e in (
        ap (λ (k : KnownPointState). contains k.moved route.0) found.2 ∙ removed found.0.moved route.0,
        λ side was. ap (λ (k : KnownPointState). k.side) found.2 ∙ (ap (λ (k : KnownPointState). k.side) (same_Some found.0 was.0 (sym found.1 ∙ was.1)) ∙ was.2.1),
      )),
      refl,
      refl,
    ),
    (set_anew one, changed_here set_anew route.0 clocked.ixl.routes one there, (refl, refl)),
  )

  heard_set : (one : RouteState) → slice_get clocked.ixl.routes route.0 ≡ Some one → refusal now table (Command.Request route) clocked.ixl ≡ None → Set heard
  heard_set one there none = subst (λ (cause : Option Refusal). Set (heard_by cause)) (sym none) (obeyed_set one there)

  abbrev seen : StepSoFar
  seen = over (watching table) (count table) heard

  watching_set : (number : ℕ) (part : StepSoFar) → (Unmoved clocked.ixl route.0 part.ixl.known_points × (part.ixl.detectors ≡ clocked.ixl.detectors) × (part.ixl.closed ≡ clocked.ixl.closed)) → (Unmoved clocked.ixl route.0 (watching table number part).ixl.known_points × ((watching table number part).ixl.detectors ≡ clocked.ixl.detectors) × ((watching table number part).ixl.closed ≡ clocked.ixl.closed))
  unfolding watching
  watching_set number part is = route_keeps Q table number _ part (λ row one there here. where_keeps Q _ part _ (λ due. is) is) is
    where
      Q : StepSoFar → Type 0
      Q q = Unmoved clocked.ixl route.0 q.ixl.known_points × (q.ixl.detectors ≡ clocked.ixl.detectors) × (q.ixl.closed ≡ clocked.ixl.closed)

  accepted_so : (asked : IsAsked table clocked.ixl route.0) → refusal now table (Command.Request route) clocked.ixl ≡ None → Accepted now table clocked.ixl (interlocking_stepped site table (Commands (Command.Request route)) world).interlocking.ixl route.0 asked.row
  unfolding interlocking_stepped stepped ticked given
  accepted_so asked none = record { unmoved = behind.0.0; detectors = behind.0.1; closed = behind.0.2; course = behind.1 }
    where
      set : Set heard
      set = heard_set asked.route asked.there none

      seen_field : Unmoved clocked.ixl route.0 seen.ixl.known_points × (seen.ixl.detectors ≡ clocked.ixl.detectors) × (seen.ixl.closed ≡ clocked.ixl.closed)
      seen_field = over_keeps (λ (q : StepSoFar). Unmoved clocked.ixl route.0 q.ixl.known_points × (q.ixl.detectors ≡ clocked.ixl.detectors) × (q.ixl.closed ≡ clocked.ixl.closed)) (watching table) watching_set (count table) heard set.0

      seen_waits : At seen.ixl.routes route.0 Waits
      seen_waits = over_keeps (λ (q : StepSoFar). At q.ixl.routes route.0 Waits) (watching table) (watching_held now table route.0 Waits waits_keep) (count table) heard set.1

      freed_field : FieldStands seen.ixl (freed_by_cancel now table seen)
      freed_field = until_freed now table seen.ixl seen (refl, refl, refl)

      moved_field : Unmoved clocked.ixl route.0 (moved now table seen).ixl.known_points × ((moved now table seen).ixl.detectors ≡ clocked.ixl.detectors) × ((moved now table seen).ixl.closed ≡ clocked.ixl.closed)
      moved_field = over_keeps (StillUnmoved now table clocked.ixl route.0) (moving now table) (moving_unmoved now table clocked.ixl route.0) (count table) (freed_by_cancel now table seen)
          (subst (Unmoved clocked.ixl route.0) (sym freed_field.0) seen_field.0, freed_field.1 ∙ seen_field.1, freed_field.2 ∙ seen_field.2)

      moved_waits : At (moved now table seen).ixl.routes route.0 Waits
      moved_waits = until_moved now table route.0 Waits waits_keep seen (over_keeps (λ (q : StepSoFar). At q.ixl.routes route.0 Waits) (withdrawing now table) (waits_held now table route.0) (count table) seen seen_waits)

      behind : StillUnmoved now table clocked.ixl route.0 (ruled now table seen) × Course now table clocked.ixl route.0 asked.row (ruled now table seen)
      behind = over_keeps (λ (q : StepSoFar). StillUnmoved now table clocked.ixl route.0 q × Course now table clocked.ixl route.0 asked.row q) (proceeding now table)
          (proceeding_course now table clocked.ixl route.0 asked.row asked.row_there) (count table) (moved now table seen) (moved_field, inl moved_waits)

  accepted_none : answered site table (Event.Request (Command.Request route)) world ≡ Answer.Accepted → refusal now table (Command.Request route) clocked.ixl ≡ None
  unfolding answered reply
  accepted_none accepted = not_refused (refusal now table (Command.Request route) clocked.ixl) accepted

  abbrev after : WorldState
  after = happens site table (Event.Request (Command.Request route)) world

  accepted_then : answered site table (Event.Request (Command.Request route)) world ≡ Answer.Accepted → (asked : IsAsked table clocked.ixl route.0) × Accepted now table clocked.ixl after.interlocking.ixl route.0 asked.row
  unfolding happens
  accepted_then accepted =
      let none = accepted_none accepted
      in let asked = is_asked now table clocked.ixl route none
      in (asked, accepted_so asked none)

  pub accepted_goes_on : answered site table (Event.Request (Command.Request route)) world ≡ Answer.Accepted → At after.interlocking.ixl.routes route.0 (λ (one : RouteState). Waits one ⊎ HasAspect one)
  accepted_goes_on accepted = choose (accepted_then accepted).0.row (accepted_then accepted).1.course
    where
      choose : (row : Row) → At after.interlocking.ixl.routes route.0 Waits ⊎ (At after.interlocking.ixl.routes route.0 HasAspect × AllKnown after.interlocking.ixl row.needs) → At after.interlocking.ixl.routes route.0 (λ (one : RouteState). Waits one ⊎ HasAspect one)
      choose row (inl waits) = (waits.0, waits.1, inl waits.2)
      choose row (inr proceeds) = (proceeds.0.0, proceeds.0.1, inr proceeds.0.2)

  -- of an available point over a clear section, that no route with authority holds, a move isn't due: it is known at its side
  pub accepted_points : MoveLaw → RequestLaw → (row : Row) (need : Need) → slice_get table.rows route.0 ≡ Some row → Contains row.needs need → answered site table (Event.Request (Command.Request route)) world ≡ Answer.Accepted
      → IsAvailable after.interlocking.ixl need.point → At table.point_sections need.point (IsClear table after.interlocking.ixl) → (IsHeldWithAuthority table after.interlocking.ixl need.point → ⊥) → Known after.interlocking.ixl need.point need.side
  unfolding happens
  accepted_points law request row need row_there within accepted available clear unheld = choose behind.1.course
    where
      admissible : Admissible now table clocked.ixl route.0
      admissible = (request now table clocked.ixl route).0 (accepted_none accepted)

      used : Contains (things_used route.0 admissible.row) (need_thing need)
      used = need_is_used route.0 admissible.row need (subst (λ (r : Row). Contains r.needs need) (same_Some row admissible.row (sym row_there ∙ admissible.known.0)) within)

      behind : (asked : IsAsked table clocked.ixl route.0) × Accepted now table clocked.ixl after.interlocking.ixl route.0 asked.row
      behind = accepted_then accepted

      -- a required point in a closed section is known at its side as the request is accepted, and so after it
      by_known : Known clocked.ixl need.point need.side ⊎ (Known clocked.ixl need.point need.side → ⊥) → LiesInClosed table after.interlocking.ixl need.point
          → (Known after.interlocking.ixl need.point need.side → ⊥) → ⊥
      by_known (inl was) lies unknown = unknown (available.0, available.1, (available.2, (behind.1.unmoved need.point available.0 available.1 available.2).1 need.side was))
      by_known (inr was_not) lies unknown = admissible.unclosed (need_thing need) used
          (inr (subst (λ (c : Closings). LiesInClosed table (record clocked.ixl { closed = c }) need.point) behind.1.closed lies, was_not))

      choose : At after.interlocking.ixl.routes route.0 Waits ⊎ (At after.interlocking.ixl.routes route.0 HasAspect × AllKnown after.interlocking.ixl behind.0.row.needs) → Known after.interlocking.ixl need.point need.side
      choose (inl waits) = known_surely after.interlocking.ixl need.point need.side (λ unknown. step_none law site table (Commands (Command.Request route)) world route.0 row need row_there within row waits.0 (row_there, waits.1) (record {
        waits = waits.2.0;
        goes_on = waits.2.1;
        available = available;
        elsewhere = unknown;
        over_clear = clear;
        unheld = unheld;
        once = (available.0, available.1, (behind.1.unmoved need.point available.0 available.1 available.2).0);
        unclosed = λ lies. by_known (known_or_not clocked.ixl need.point need.side) lies unknown;
      }))
      choose (inr proceeds) = All-contains (λ (one : Need). Known after.interlocking.ixl one.point one.side) row.needs need
          (subst (λ (r : Row). AllKnown after.interlocking.ixl r.needs) (same_Some behind.0.row row (sym behind.0.row_there ∙ row_there)) proceeds.1) within

  -- it was admissible as the request came
  pub accepted_admissible : RequestLaw → answered site table (Event.Request (Command.Request route)) world ≡ Answer.Accepted → Admissible now table (all_clocked now world.interlocking.ixl) route.0
  accepted_admissible law accepted = (law now table clocked.ixl route).0 (accepted_none accepted)

  -- its sections are clear
  pub accepted_clear : RequestLaw → (row : Row) → slice_get table.rows route.0 ≡ Some row
      → answered site table (Event.Request (Command.Request route)) world ≡ Answer.Accepted → AllClear table after.interlocking.ixl row.sections
  accepted_clear law row row_there accepted =
      let admissible = accepted_admissible law accepted
      in let behind = accepted_then accepted
      in subst (λ (ds : List KnownDetectorState). AllClear table (record clocked.ixl { detectors = ds }) row.sections) (sym behind.1.detectors)
      (subst (λ (r : Row). AllClear table clocked.ixl r.sections) (same_Some admissible.row row (sym admissible.known.0 ∙ row_there)) admissible.clear)

  -- it waits, or has its aspect, and then each point that it requires is known at its side
  pub accepted_course : answered site table (Event.Request (Command.Request route)) world ≡ Answer.Accepted → (row : Row) → slice_get table.rows route.0 ≡ Some row
      → At after.interlocking.ixl.routes route.0 Waits ⊎ (At after.interlocking.ixl.routes route.0 HasAspect × AllKnown after.interlocking.ixl row.needs)
  accepted_course accepted row row_there =
      let behind = accepted_then accepted
      in subst (λ (r : Row). At after.interlocking.ixl.routes route.0 Waits ⊎ (At after.interlocking.ixl.routes route.0 HasAspect × AllKnown after.interlocking.ixl r.needs)) (same_Some behind.0.row row (sym behind.0.row_there ∙ row_there)) behind.1.course
