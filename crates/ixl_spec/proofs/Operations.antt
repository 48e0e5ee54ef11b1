-- Which releases, moves, closes and opens are refused, and for what cause.
use Rattle.std.proofs.Common.{inl, inr, ◌≡◌, ◌⊎◌, ◌↔◌, ℕ, ◌<◌, Bool, true, false, not, if◌then◌else◌, length, get_or, refl, ap, sym, ◌∙◌, subst}
use Rattle.std.specs.Prelude.{◌&&◌, nat_lt, Option, Some, None, slice_get}
use Rattle.std.proofs.lemmas.Bool.{true≢false, false≢true}
use Rattle.std.proofs.lemmas.Option.{same_Some, slice_get-get_or}
use Rattle.closings.specs.sci_telegram.declared.message.Side.{Side}
use Rattle.closings.specs.layout.declared.ids.PointId.{PointId}
use Rattle.closings.specs.layout.declared.ids.RouteId.{RouteId}
use Rattle.closings.specs.declared.thing.Thing.TheVariants.{Point}
use Rattle.closings.specs.declared.thing.Named.{Named}
use Rattle.closings.specs.Closed.{IsClosed, is_closed}
use Rattle.ixl_spec.specs.Table.{Row, Table}
use Rattle.ixl_spec.specs.State.{IxlState, RouteState}
use Rattle.ixl_spec.specs.View.{holds_point, is_clear, is_holding, is_occupied, is_point_available, is_set, is_unknown}
use Rattle.ixl_spec.specs.Operations.{first_holding, first_keeping_open, has_named, keeps_open, lies_in_closed}
use Rattle.ixl_spec.specs.Commands.{held_told, is_ended, moving_refusal, own_section_refusal, refusal, refused_where, release_refusal, section_refusal}
use Rattle.ixl_spec.specs.Due.{At, IsAvailable, IsClear, IsOccupied, IsRouteOf, LiesInClosed}
use Rattle.ixl_spec.specs.Refusals.{IsKnownRoute, IsUnknown, Obeys}
use Rattle.ixl_spec.specs.OperationCauses.{Holds, IsCloseRefused, IsFirstRoute, IsFreeToMove, IsMoveRefused, IsNamed, IsReleaseRefused, KeepsOpen, MayBeClosed, MayBeMoved, MayBeReleased, NoRoute}
use Rattle.ixl_spec.specs.declared.command.Command.TheVariants as commands
use Rattle.ixl_spec.specs.declared.command.Refusal.{Refusal}
use Rattle.ixl_spec.specs.declared.command.Refusal.TheVariants as refusals
use Rattle.ixl_spec.specs.declared.phase.Phase.{Phase}
use Rattle.ixl_spec.specs.declared.phase.Phase.TheVariants as phase
use Rattle.ixl_spec.proofs.Decide.{Decides, and_yes, itself_decides, less_decides, negation_decides, no, not_decides}
use Rattle.ixl_spec.proofs.Knows.{available_decides, clear_decides, occupied_decides}
use Rattle.ixl_spec.proofs.Closed.{lies_in_closed_decides}
use Rattle.ixl_spec.proofs.HoldTests.{none_is, point_decides}
use Rattle.ixl_spec.proofs.FirstRoute.{FirstTells, first_tells}
use Rattle.ixl_spec.proofs.Uses.{keeps_open_decides, named_decides}
use Rattle.ixl_spec.proofs.Requests.{by_refused_where, clear_or_occupied, stands}

-- ---- one cause after another

by_test : (Tells : Option Refusal → Type 0) (test : Bool) (told : Refusal) (otherwise : Option Refusal) →
    (test ≡ true → Tells (Some told)) → (test ≡ false → Tells otherwise) → Tells (refused_where test told otherwise)
by_test Tells true told otherwise failing passing = failing refl
by_test Tells false told otherwise failing passing = passing refl

-- of what was negated
was_true : (b : Bool) → not b ≡ false → b ≡ true
was_true true is = refl
was_true false is = absurd (true≢false is)

was_false : (b : Bool) → not b ≡ true → b ≡ false
was_false b is = (not_decides b).yes is

-- the hold is over, and it was told to resume
past_hold : (Tells : Option Refusal → Type 0) (now : ℕ) (ixl : IxlState) (otherwise : Option Refusal) → (is_holding now ixl ≡ true → Tells (Some refusals.Holding)) →
    (is_holding now ixl ≡ false → ixl.resumed ≡ false → Tells (Some refusals.NotResumed)) → (Obeys now ixl → Tells otherwise) →
    Tells (refused_where (is_holding now ixl) refusals.Holding (refused_where (not ixl.resumed) refusals.NotResumed otherwise))
past_hold Tells now ixl otherwise holding waiting obeying = by_test Tells (is_holding now ixl) refusals.Holding _ holding
    (λ over. by_test Tells (not ixl.resumed) refusals.NotResumed _ (λ waits. waiting over (was_false ixl.resumed waits)) (λ obeys. obeying (over, was_true ixl.resumed obeys)))

-- ---- release

abbrev pub ReleaseTells : ℕ → Table → IxlState → ℕ → Option Refusal → Type 0
ReleaseTells now table ixl number None = MayBeReleased now table ixl number
ReleaseTells now table ixl number (Some cause) = IsReleaseRefused now table ixl number cause

-- a route is kept for each row, and for no other number
abbrev pub AreKept : Table → IxlState → ℕ → Type 0
AreKept table ixl number = (route : RouteState) → slice_get ixl.routes number ≡ Some route → (row : Row) × (slice_get table.rows number ≡ Some row)

set_where_ended : (p : Phase) (clock freed : ℕ) → p ≡ phase.Ended clock freed → is_set p ≡ true
set_where_ended p clock freed is = ap is_set is

ended_at : (p : Phase) → is_ended p ≡ true → (clock : ℕ) × (freed : ℕ) × (p ≡ phase.Ended clock freed)
ended_at phase.Free is = absurd (false≢true is)
ended_at phase.Waiting is = absurd (false≢true is)
ended_at phase.Proceeding is = absurd (false≢true is)
ended_at phase.Withdrawn is = absurd (false≢true is)
ended_at (phase.Ended clock freed) is = (clock, freed, refl)

same_route : (table : Table) (ixl : IxlState) (number : ℕ) (row other : Row) (route state : RouteState) → IsRouteOf table ixl number row route →
    IsRouteOf table ixl number other state → route ≡ state
same_route table ixl number row other route state is also = same_Some _ _ (sym is.1 ∙ also.1)

pub release_tells : (now : ℕ) (table : Table) (ixl : IxlState) (number : ℕ) → AreKept table ixl number →
    ReleaseTells now table ixl number (release_refusal now ixl (slice_get ixl.routes number))
release_tells now table ixl number kept = by_route (slice_get ixl.routes number) refl where
  by_route : (found : Option RouteState) → slice_get ixl.routes number ≡ found → ReleaseTells now table ixl number (release_refusal now ixl found)
  by_route None is = λ known. none_is (sym is ∙ known.2.1)
  by_route (Some route) is = past_hold (ReleaseTells now table ixl number) now ixl _ (λ holds. (known, holds)) (λ over waits. (known, over, waits))
      (λ obeys. by_test (ReleaseTells now table ixl number) (not (is_set route.phase)) refusals.NotSet _
      (λ free. (obeys, (row.0, route, (row.1, is), was_false (is_set route.phase) free)))
      (λ set. by_test (ReleaseTells now table ixl number) (not (route.cancelled && is_ended route.phase)) refusals.NotEnded _
      (λ none. (obeys, (row.0, route, (row.1, is), was_true (is_set route.phase) set), refused obeys (was_false (route.cancelled && is_ended route.phase) none)))
      (λ some. accepted obeys (and_yes route.cancelled (is_ended route.phase) (was_true (route.cancelled && is_ended route.phase) some)))))
    where
      row : (row : Row) × (slice_get table.rows number ≡ Some row)
      row = kept route is

      known : IsKnownRoute table ixl number
      known = (row.0, route, (row.1, is))

      refused : Obeys now ixl → route.cancelled && is_ended route.phase ≡ false → MayBeReleased now table ixl number → ⊥
      refused obeys none may = true≢false (sym (ap (λ (r : RouteState). r.cancelled && is_ended r.phase) (same_route table ixl number row.0 may.row route may.route (row.1, is) may.known)
          ∙ ap (λ b. b && is_ended may.route.phase) may.cancelled ∙ ap is_ended may.ended) ∙ none)

      accepted : Obeys now ixl → (route.cancelled ≡ true) × (is_ended route.phase ≡ true) → MayBeReleased now table ixl number
      accepted obeys both =
          let ended = ended_at route.phase both.1
          in record { obeys = obeys; row = row.0; route = route; known = (row.1, is); cancelled = both.0; clock = ended.0; freed = ended.1; ended = ended.2 }

never_unreleased : (now : ℕ) (table : Table) (ixl : IxlState) (number : ℕ) → MayBeReleased now table ixl number → (cause : Refusal) → IsReleaseRefused now table ixl number cause → ⊥
never_unreleased now table ixl number may refusals.UnknownRoute why = why (may.row, may.route, may.known)
never_unreleased now table ixl number may refusals.Holding why = true≢false (sym why.1 ∙ may.obeys.0)
never_unreleased now table ixl number may refusals.NotResumed why = true≢false (sym may.obeys.1 ∙ why.2)
never_unreleased now table ixl number may refusals.NotSet why =
    true≢false (sym (set_where_ended may.route.phase may.clock may.freed may.ended)
    ∙ ap (λ (r : RouteState). is_set r.phase) (same_route table ixl number may.row why.1.0 may.route why.1.1 may.known why.1.2) ∙ why.1.3)
never_unreleased now table ixl number may refusals.NotEnded why = why.2 may
never_unreleased now table ixl number may refusals.AlreadySet why = why
never_unreleased now table ixl number may (refusals.Conflict a) why = why
never_unreleased now table ixl number may (refusals.NotClear section) why = why
never_unreleased now table ixl number may (refusals.PointUnavailable point) why = why
never_unreleased now table ixl number may refusals.SignalUnavailable why = why
never_unreleased now table ixl number may refusals.DetectionDown why = why
never_unreleased now table ixl number may refusals.NoSuchThing why = why
never_unreleased now table ixl number may (refusals.Closed thing) why = why
never_unreleased now table ixl number may (refusals.Held a) why = why

-- ---- move

abbrev pub MoveTells : ℕ → Table → IxlState → PointId → Side → Option Refusal → Type 0
MoveTells now table ixl point side None = MayBeMoved now table ixl point side
MoveTells now table ixl point side (Some cause) = IsMoveRefused now table ixl point side cause

by_held : (Tells : Option Refusal → Type 0) (holds : ℕ → Row → RouteState → Type 0) (table : Table) (ixl : IxlState) (found : Option ℕ) (otherwise : Option Refusal) →
    FirstTells holds table ixl found → ((number : ℕ) → IsFirstRoute table ixl holds number → Tells (Some (refusals.Held (record { 0 = number })))) →
    (NoRoute table ixl holds → Tells otherwise) → Tells (held_told found otherwise)
by_held Tells holds table ixl None otherwise is failing passing = passing is
by_held Tells holds table ixl (Some number) otherwise is failing passing = failing number is

-- what was tested of a move so far
abbrev Free : ℕ → Table → IxlState → PointId → Side → Type 0
Free now table ixl point side = IsFreeToMove now table ixl point side

-- the section in which a point lies
section_there : (table : Table) (point : PointId) → point.0 < length table.point_sections → (section : ℕ) × (slice_get table.point_sections point.0 ≡ Some section)
section_there table point there = (get_or table.point_sections point.0 0, slice_get-get_or table.point_sections point.0 0 there)

section_tells : (now : ℕ) (table : Table) (ixl : IxlState) (point : PointId) (side : Side) → Free now table ixl point side → IsAvailable ixl point.0 →
    MoveTells now table ixl point side (own_section_refusal table ixl point.0)
section_tells now table ixl point side free available = by_closed (lies_in_closed table ixl point.0) refl where
  Told : Option Refusal → Type 0
  Told = MoveTells now table ixl point side

  may : LiesInClosed table ixl point.0 ⊎ At table.point_sections point.0 (IsClear table ixl) → MayBeMoved now table ixl point side
  may section = record { there = free.0; obeys = free.1; unclosed = free.2; unheld = free.3; available = available; section = section }

  by_closed : (b : Bool) → lies_in_closed table ixl point.0 ≡ b →
      Told (if b then None else section_refusal table ixl (slice_get table.point_sections point.0))
  by_closed true is = may (inl ((lies_in_closed_decides table ixl point.0).yes is))
  by_closed false is = by_section (slice_get table.point_sections point.0) refl where
    opened : LiesInClosed table ixl point.0 → ⊥
    opened = no _ _ (lies_in_closed_decides table ixl point.0) is

    by_section : (found : Option ℕ) → slice_get table.point_sections point.0 ≡ found → Told (section_refusal table ixl found)
    by_section None none = absurd (none_is (sym none ∙ (section_there table point free.0).1))
    by_section (Some section) at = by_refused_where Told (is_occupied table ixl section) (IsOccupied table ixl section) _ _ (occupied_decides table ixl section)
        (λ occupied. (free, available, opened, at, occupied))
        (λ vacant. by_test Told (is_unknown table ixl section) refusals.DetectionDown None
        (λ unknown. (free, available, opened, (section, at, unknown_of unknown)))
        (λ known. may (inr (section, at, clear_of vacant known))))
      where
        unknown_of : is_unknown table ixl section ≡ true → IsUnknown table ixl section
        unknown_of is =
            let both = and_yes _ _ is
            in (no _ _ (clear_decides table ixl section) (was_false _ both.0), no _ _ (occupied_decides table ixl section) (was_false _ both.1))

        clear_of : (IsOccupied table ixl section → ⊥) → is_unknown table ixl section ≡ false → IsClear table ixl section
        clear_of vacant known = by_clear (is_clear table ixl section) refl where
          by_clear : (b : Bool) → is_clear table ixl section ≡ b → IsClear table ixl section
          by_clear true clear = (clear_decides table ixl section).yes clear
          by_clear false unclear = absurd (by_occupied (is_occupied table ixl section) refl) where
            by_occupied : (b : Bool) → is_occupied table ixl section ≡ b → ⊥
            by_occupied true occupied = vacant ((occupied_decides table ixl section).yes occupied)
            by_occupied false none = false≢true (sym known ∙ ap (λ b. not b && not (is_occupied table ixl section)) unclear ∙ ap (λ b. not b) none)

moving_tells : (now : ℕ) (table : Table) (ixl : IxlState) (point : PointId) (side : Side) → point.0 < length table.point_sections → Obeys now ixl →
    MoveTells now table ixl point side (moving_refusal table ixl point side)
unfolding moving_refusal
moving_tells now table ixl point side there obeys =
    by_refused_where Told (is_closed ixl.closed (Point point side)) (IsClosed ixl.closed (Point point side)) _ _ (itself_decides (is_closed ixl.closed (Point point side)))
    (λ closed. (there, obeys, refl, closed))
    (λ opened. by_held Told (Holds point.0) table ixl (first_holding table ixl point.0) _
    (first_tells (Holds point.0) (λ number row route. holds_point row route.phase point.0) (λ number row route. point_decides row route.phase point.0) table ixl)
    (λ number first. (there, obeys, opened, first))
    (λ unheld. by_refused_where Told (not (is_point_available ixl point.0)) (IsAvailable ixl point.0 → ⊥) _ _ (negation_decides _ _ (available_decides ixl point.0))
    (λ away. ((there, obeys, opened, unheld), refl, away))
    (λ near. section_tells now table ixl point side (there, obeys, opened, unheld) (stands _ _ (available_decides ixl point.0) near))))
  where
    Told : Option Refusal → Type 0
    Told = MoveTells now table ixl point side

pub move_tells : (now : ℕ) (table : Table) (ixl : IxlState) (point : PointId) (side : Side) →
    MoveTells now table ixl point side (refusal now table (commands.Move point side) ixl)
unfolding refusal
move_tells now table ixl point side =
    by_refused_where Told (not (nat_lt point.0 (length table.point_sections))) (point.0 < length table.point_sections → ⊥) _ _ (negation_decides _ _ (less_decides point.0 (length table.point_sections)))
    (λ absent. absent)
    (λ here. let there : point.0 < length table.point_sections = stands _ _ (less_decides point.0 (length table.point_sections)) here
    in past_hold Told now ixl _ (λ holds. (there, holds)) (λ over waits. (there, over, waits)) (λ obeys. moving_tells now table ixl point side there obeys))
  where
    Told : Option Refusal → Type 0
    Told = MoveTells now table ixl point side

-- two sections in which a point lies are one
one_section : (table : Table) (point : PointId) (holds : ℕ → Type 0) (section : ℕ) → slice_get table.point_sections point.0 ≡ Some section → At table.point_sections point.0 holds → holds section
one_section table point holds section is at = subst holds (same_Some _ _ (sym at.1 ∙ is)) at.2

never_unmoved : (now : ℕ) (table : Table) (ixl : IxlState) (point : PointId) (side : Side) → MayBeMoved now table ixl point side → (cause : Refusal) →
    IsMoveRefused now table ixl point side cause → ⊥
never_unmoved now table ixl point side may refusals.NoSuchThing why = why may.there
never_unmoved now table ixl point side may refusals.Holding why = true≢false (sym why.1 ∙ may.obeys.0)
never_unmoved now table ixl point side may refusals.NotResumed why = true≢false (sym may.obeys.1 ∙ why.2)
never_unmoved now table ixl point side may (refusals.Closed thing) why = may.unclosed (subst (IsClosed ixl.closed) why.2 why.3)
never_unmoved now table ixl point side may (refusals.Held a) why = may.unheld a.0 why.3.0
never_unmoved now table ixl point side may (refusals.PointUnavailable other) why = why.2 may.available
never_unmoved now table ixl point side may (refusals.NotClear section) why = by_section may.section where
  by_section : LiesInClosed table ixl point.0 ⊎ At table.point_sections point.0 (IsClear table ixl) → ⊥
  by_section (inl closed) = why.2 closed
  by_section (inr clear) = clear_or_occupied table ixl section.0 (one_section table point (IsClear table ixl) section.0 why.3 clear) why.4
never_unmoved now table ixl point side may refusals.DetectionDown why = by_section may.section where
  by_section : LiesInClosed table ixl point.0 ⊎ At table.point_sections point.0 (IsClear table ixl) → ⊥
  by_section (inl closed) = why.2 closed
  by_section (inr clear) = why.3.2.0 (one_section table point (IsClear table ixl) why.3.0 why.3.1 clear)
never_unmoved now table ixl point side may refusals.UnknownRoute why = why
never_unmoved now table ixl point side may refusals.AlreadySet why = why
never_unmoved now table ixl point side may (refusals.Conflict a) why = why
never_unmoved now table ixl point side may refusals.SignalUnavailable why = why
never_unmoved now table ixl point side may refusals.NotSet why = why
never_unmoved now table ixl point side may refusals.NotEnded why = why

-- ---- close, open

abbrev pub CloseTells : Table → IxlState → Named → Option Refusal → Type 0
CloseTells table ixl named None = MayBeClosed table ixl named
CloseTells table ixl named (Some cause) = IsCloseRefused table ixl named cause

pub close_tells : (now : ℕ) (table : Table) (ixl : IxlState) (named : Named) → CloseTells table ixl named (refusal now table (commands.Close named) ixl)
unfolding refusal
close_tells now table ixl named =
    by_refused_where Told (not (has_named table ixl named)) (IsNamed table ixl named → ⊥) _ _ (negation_decides _ _ (named_decides table ixl named))
    (λ absent. absent)
    (λ here. let there : IsNamed table ixl named = stands _ _ (named_decides table ixl named) here
    in by_held Told (KeepsOpen table ixl named) table ixl (first_keeping_open table ixl named) None
    (first_tells (KeepsOpen table ixl named) (keeps_open table ixl named) (keeps_open_decides table ixl named) table ixl)
    (λ number first. (there, first)) (λ unused. record { there = there; unused = unused }))
  where
    Told : Option Refusal → Type 0
    Told = CloseTells table ixl named

never_unclosed : (table : Table) (ixl : IxlState) (named : Named) → MayBeClosed table ixl named → (cause : Refusal) → IsCloseRefused table ixl named cause → ⊥
never_unclosed table ixl named may refusals.NoSuchThing why = why may.there
never_unclosed table ixl named may (refusals.Held a) why = may.unused a.0 why.1.0
never_unclosed table ixl named may refusals.UnknownRoute why = why
never_unclosed table ixl named may refusals.Holding why = why
never_unclosed table ixl named may refusals.NotResumed why = why
never_unclosed table ixl named may refusals.AlreadySet why = why
never_unclosed table ixl named may (refusals.Conflict a) why = why
never_unclosed table ixl named may (refusals.NotClear section) why = why
never_unclosed table ixl named may (refusals.PointUnavailable point) why = why
never_unclosed table ixl named may refusals.SignalUnavailable why = why
never_unclosed table ixl named may refusals.NotSet why = why
never_unclosed table ixl named may refusals.DetectionDown why = why
never_unclosed table ixl named may refusals.NotEnded why = why
never_unclosed table ixl named may (refusals.Closed thing) why = why

-- ---- what is accepted, and why the others are refused

-- an answer that tells what is so is the acceptance where that may be
accepts : (May : Type 0) (IsRefused : Refusal → Type 0) (answer : Option Refusal) → (answer ≡ None → May) → ((cause : Refusal) → answer ≡ Some cause → IsRefused cause) →
    (May → (cause : Refusal) → IsRefused cause → ⊥) → (answer ≡ None) ↔ May
accepts May IsRefused answer none some never = (none, λ may. by_answer answer refl may) where
  by_answer : (found : Option Refusal) → answer ≡ found → May → answer ≡ None
  by_answer None is may = is
  by_answer (Some cause) is may = absurd (never may cause (some cause is))

pub moves_accepted : (now : ℕ) (table : Table) (ixl : IxlState) (point : PointId) (side : Side) →
    refusal now table (commands.Move point side) ixl ≡ None ↔ MayBeMoved now table ixl point side
moves_accepted now table ixl point side = accepts (MayBeMoved now table ixl point side) (IsMoveRefused now table ixl point side) _
    (λ is. subst (MoveTells now table ixl point side) is (move_tells now table ixl point side))
    (λ cause is. subst (MoveTells now table ixl point side) is (move_tells now table ixl point side)) (never_unmoved now table ixl point side)

pub moves_refused : (now : ℕ) (table : Table) (ixl : IxlState) (point : PointId) (side : Side) (cause : Refusal) →
    refusal now table (commands.Move point side) ixl ≡ Some cause → IsMoveRefused now table ixl point side cause
moves_refused now table ixl point side cause is = subst (MoveTells now table ixl point side) is (move_tells now table ixl point side)

pub closes_accepted : (now : ℕ) (table : Table) (ixl : IxlState) (named : Named) → refusal now table (commands.Close named) ixl ≡ None ↔ MayBeClosed table ixl named
closes_accepted now table ixl named = accepts (MayBeClosed table ixl named) (IsCloseRefused table ixl named) _
    (λ is. subst (CloseTells table ixl named) is (close_tells now table ixl named))
    (λ cause is. subst (CloseTells table ixl named) is (close_tells now table ixl named)) (never_unclosed table ixl named)

pub closes_refused : (now : ℕ) (table : Table) (ixl : IxlState) (named : Named) (cause : Refusal) → refusal now table (commands.Close named) ixl ≡ Some cause →
    IsCloseRefused table ixl named cause
closes_refused now table ixl named cause is = subst (CloseTells table ixl named) is (close_tells now table ixl named)

pub opens_accepted : (now : ℕ) (table : Table) (ixl : IxlState) (named : Named) → refusal now table (commands.Open named) ixl ≡ None ↔ IsNamed table ixl named
unfolding refusal
opens_accepted now table ixl named = by_test_of (has_named table ixl named) (named_decides table ixl named) where
  by_test_of : (b : Bool) → Decides b (IsNamed table ixl named) → refused_where (not b) refusals.NoSuchThing None ≡ None ↔ IsNamed table ixl named
  by_test_of true is = (λ none. is.yes refl, λ there. refl)
  by_test_of false is = (λ some. absurd (none_is (sym some)), λ there. absurd (false≢true (is.shown there)))

release_at : (now : ℕ) (table : Table) (ixl : IxlState) (route : RouteId) → AreKept table ixl route.0 →
    ReleaseTells now table ixl route.0 (refusal now table (commands.Release route) ixl)
unfolding refusal
release_at now table ixl route kept = release_tells now table ixl route.0 kept

pub releases_accepted : (now : ℕ) (table : Table) (ixl : IxlState) (route : RouteId) → AreKept table ixl route.0 →
    refusal now table (commands.Release route) ixl ≡ None ↔ MayBeReleased now table ixl route.0
releases_accepted now table ixl route kept = accepts (MayBeReleased now table ixl route.0) (IsReleaseRefused now table ixl route.0) _
    (λ is. subst (ReleaseTells now table ixl route.0) is (release_at now table ixl route kept))
    (λ cause is. subst (ReleaseTells now table ixl route.0) is (release_at now table ixl route kept)) (never_unreleased now table ixl route.0)

pub releases_refused : (now : ℕ) (table : Table) (ixl : IxlState) (route : RouteId) → AreKept table ixl route.0 → (cause : Refusal) →
    refusal now table (commands.Release route) ixl ≡ Some cause → IsReleaseRefused now table ixl route.0 cause
releases_refused now table ixl route kept cause is = subst (ReleaseTells now table ixl route.0) is (release_at now table ixl route kept)
