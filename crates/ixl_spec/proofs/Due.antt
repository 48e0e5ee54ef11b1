-- What the tests of the rules decide, and what each rule does at one route.
use Rattle.std.proofs.Common.{inl, inr, ◌≡◌, ◌⊎◌, ℕ, suc, zero, ◌<◌, ◌≤◌, Bool, true, false, if◌then◌else◌, length, arith, refl, ap, sym, ◌∙◌, subst}
use Rattle.std.specs.Prelude.{◌&&◌, ◌||◌, nat_lt, IsTrue}
use Rattle.std.specs.FinSet.{contains}
use Rattle.std.proofs.lemmas.Bool.{false≢true, le-leb, leb-true, ltb-false, ltb-true}
use Rattle.std.proofs.lemmas.Option.{same_Some}
use Rattle.std.specs.Prelude.{Option, Some, None}
use Rattle.release.specs.Approach.{approach_end, is_due}
use Rattle.release.specs.Passage.{PassageState, is_freeable}
use Rattle.ixl_spec.specs.Table.{Need, Row, Table, at}
use Rattle.ixl_spec.specs.State.{IxlState, RouteState}
use Rattle.ixl_spec.specs.View.{all_clear, is_at_known_stop, is_clear}
use Rattle.ixl_spec.specs.Due.{AllClear, AllKnown, At, DoesWhere, FreeByCancel, IsAvailable, IsClear, IsHeldWithAuthority, IsReleaseOver, IsRouteOf, IsSignalReady, Known, KnownStop, LetsGo, LiesInClosed, MoveDue, ProceedDue, StopDue}
use Rattle.ixl_spec.specs.StepSoFar.{StepSoFar, at_route, giving_aspect, giving_move, with_route}
use Rattle.ixl_spec.specs.Rules.{authorised, come_to, ending_authority, freed, freeing_by_cancel, freeing_next, frees_cancelled, frees_next, is_move_due, is_over_clear, is_proceed_due, is_proceeding, is_release_over, is_stop_due, is_unmoved, is_waiting, is_withdrawn, moving_one, none_seen, one_freed, proceeding, stopped, withdrawing}
use Rattle.ixl_spec.specs.declared.phase.Phase.{Phase}
use Rattle.ixl_spec.specs.declared.phase.Phase.TheVariants as phase
use Rattle.ixl_spec.specs.EndDue.{EndDue, SomeFreeable}
use Rattle.ixl_spec.proofs.Decide.{Decides, and_shown, and_yes, at_decides, both_decide, equal_decides, equally, itself_decides, negation_decides, not_decides, or_decide}
use Rattle.ixl_spec.proofs.Knows.{all_clear_decides, all_known_decides, available_decides, clear_decides, known_decides, known_stop_decides, signal_ready_decides}
use Rattle.ixl_spec.proofs.HoldTests.{held_with_authority_decides, none_is}
use Rattle.ixl_spec.proofs.Closed.{lies_in_closed_decides}

waiting_decides : (p : Phase) → Decides (is_waiting p) (p ≡ phase.Waiting)
waiting_decides phase.Free = record { yes = λ is. absurd (false≢true is); shown = λ is. ap is_waiting is }
waiting_decides phase.Waiting = record { yes = λ is. refl; shown = λ is. refl }
waiting_decides phase.Proceeding = record { yes = λ is. absurd (false≢true is); shown = λ is. ap is_waiting is }
waiting_decides phase.Withdrawn = record { yes = λ is. absurd (false≢true is); shown = λ is. ap is_waiting is }
waiting_decides (phase.Ended clock done) = record { yes = λ is. absurd (false≢true is); shown = λ is. ap is_waiting is }

proceeding_decides : (p : Phase) → Decides (is_proceeding p) (p ≡ phase.Proceeding)
proceeding_decides phase.Free = record { yes = λ is. absurd (false≢true is); shown = λ is. ap is_proceeding is }
proceeding_decides phase.Waiting = record { yes = λ is. absurd (false≢true is); shown = λ is. ap is_proceeding is }
proceeding_decides phase.Proceeding = record { yes = λ is. refl; shown = λ is. refl }
proceeding_decides phase.Withdrawn = record { yes = λ is. absurd (false≢true is); shown = λ is. ap is_proceeding is }
proceeding_decides (phase.Ended clock done) = record { yes = λ is. absurd (false≢true is); shown = λ is. ap is_proceeding is }

pub proceed_decides : (now : ℕ) (table : Table) (ixl : IxlState) (row : Row) (route : RouteState) → Decides (is_proceed_due now table ixl row route) (ProceedDue now table ixl row route)
proceed_decides now table ixl row route = record {
  yes = λ is. let all = parts.yes is in record { waits = all.0.0.0.0.0; goes_on = all.0.0.0.0.1; points = all.0.0.0.1; clear = all.0.0.1; ready = all.0.1; at_stop = all.1 };
  shown = λ is. parts.shown (((((is.waits, is.goes_on), is.points), is.clear), is.ready), is.at_stop);
} where
  parts : Decides (is_proceed_due now table ixl row route)
      ((((((route.phase ≡ phase.Waiting) × (route.cancelled ≡ false)) × AllKnown ixl row.needs) × AllClear table ixl row.sections) × IsSignalReady ixl row.entry) × KnownStop now ixl row.entry)
  parts = both_decide _ _ _ _ (both_decide _ _ _ _ (both_decide _ _ _ _ (both_decide _ _ _ _ (both_decide _ _ _ _ (waiting_decides route.phase) (not_decides route.cancelled))
      (all_known_decides ixl row.needs)) (all_clear_decides table ixl row.sections)) (signal_ready_decides ixl row.entry)) (known_stop_decides now ixl row.entry)

pub stop_decides : (table : Table) (ixl : IxlState) (row : Row) (route : RouteState) → Decides (is_stop_due table ixl row route) (StopDue table ixl row route)
stop_decides table ixl row route = record {
  yes = λ is. record { given = (parts.yes is).0; why = (parts.yes is).1 };
  shown = λ is. parts.shown (is.given, is.why);
} where
  parts : Decides (is_stop_due table ixl row route)
      ((route.phase ≡ phase.Proceeding) × ((((route.cancelled ≡ true) ⊎ (AllKnown ixl row.needs → ⊥)) ⊎ (AllClear table ixl row.sections → ⊥)) ⊎ (IsSignalReady ixl row.entry → ⊥)))
  parts = both_decide _ _ _ _ (proceeding_decides route.phase) (or_decide _ _ _ _ (or_decide _ _ _ _ (or_decide _ _ _ _ (itself_decides route.cancelled)
      (negation_decides _ _ (all_known_decides ixl row.needs))) (negation_decides _ _ (all_clear_decides table ixl row.sections))) (negation_decides _ _ (signal_ready_decides ixl row.entry)))

-- ---- a rule at one route

pub at_one : (table : Table) (number : ℕ) (does : Row → RouteState → StepSoFar → StepSoFar) (part : StepSoFar) (row : Row) (route : RouteState) → IsRouteOf table part.ixl number row route →
    at_route table number does part ≡ does row route part
unfolding at_route
at_one table number does part row route is = rw is.0 (rw is.1 refl)

where_due : (test : Bool) (fact : Type 0) (changed same : StepSoFar) → Decides test fact → fact → (if test then changed else same) ≡ changed
where_due test fact changed same is holds = rw (is.shown holds) refl

where_not_due : (test : Bool) (fact : Type 0) (changed same : StepSoFar) → Decides test fact → (fact → ⊥) → (if test then changed else same) ≡ same
where_not_due true fact changed same is none = absurd (none (is.yes refl))
where_not_due false fact changed same is none = refl

pub withdraws_where_due : (now : ℕ) (table : Table) (number : ℕ) (part : StepSoFar) (row : Row) (route : RouteState) → IsRouteOf table part.ixl number row route →
    DoesWhere (StopDue table part.ixl row route) part (stopped now row (with_route number (come_to phase.Withdrawn) part)) (withdrawing now table number part)
unfolding withdrawing
withdraws_where_due now table number part row route is = record {
  due = λ holds. at_one table number _ part row route is ∙ where_due _ _ _ _ (stop_decides table part.ixl row route) holds;
  otherwise = λ none. at_one table number _ part row route is ∙ where_not_due _ _ _ _ (stop_decides table part.ixl row route) none;
}

pub proceeds_where_due : (now : ℕ) (table : Table) (number : ℕ) (part : StepSoFar) (row : Row) (route : RouteState) → IsRouteOf table part.ixl number row route →
    DoesWhere (ProceedDue now table part.ixl row route) part
    (giving_aspect now row.entry row.aspect (with_route number (authorised table part.ixl row) part)) (proceeding now table number part)
unfolding proceeding
proceeds_where_due now table number part row route is = record {
  due = λ holds. at_one table number _ part row route is ∙ where_due _ _ _ _ (proceed_decides now table part.ixl row route) holds;
  otherwise = λ none. at_one table number _ part row route is ∙ where_not_due _ _ _ _ (proceed_decides now table part.ixl row route) none;
}

-- ---- freeing by cancel

none_seen_decides : (n : ℕ) (passage : PassageState) → Decides (none_seen n passage) ((place : ℕ) → place < n → contains passage.seen place ≡ false)
none_seen_decides zero passage = record { yes = λ is. λ place within. absurd (omega (arith, within)); shown = λ is. refl }
none_seen_decides (suc n) passage =
    let rest = none_seen_decides n passage
    in record {
      yes = λ is. λ place within. last_or place within ((not_decides (contains passage.seen n)).yes (and_yes _ _ is).0) (rest.yes (and_yes _ _ is).1);
      shown = λ is. and_shown _ _ ((not_decides (contains passage.seen n)).shown (is n (omega arith))) (rest.shown (λ place within. is place (omega (arith, within))));
    }
  where
    last_or : (place : ℕ) → place < suc n → contains passage.seen n ≡ false → ((k : ℕ) → k < n → contains passage.seen k ≡ false) → contains passage.seen place ≡ false
    last_or place within one others = cases (nat_lt place n) refl where
      cases : (b : Bool) → nat_lt place n ≡ b → contains passage.seen place ≡ false
      cases true less = others place (ltb-true place n less)
      cases false more = subst (λ k. contains passage.seen k ≡ false) (omega (arith, within, ltb-false place n more)) one

due_decides : (occupied : Bool) (clock now : ℕ) → Decides (is_due occupied clock now) ((occupied ≡ false) ⊎ (approach_end clock ≤ now))
due_decides occupied clock now = or_decide _ _ _ _ (not_decides occupied) (record { yes = leb-true (approach_end clock) now; shown = le-leb (approach_end clock) now })

is_ended : Phase → Bool
is_ended (phase.Ended clock done) = true
is_ended _ = false

clock_of : Phase → ℕ
clock_of (phase.Ended clock done) = clock
clock_of _ = 0

lets_go_decides : (now : ℕ) (table : Table) (ixl : IxlState) (row : Row) (route : RouteState) (ended_at : ℕ) →
    Decides (none_seen (length row.sections) route.passage && all_clear table ixl row.sections && is_due route.approached ended_at now) (LetsGo now table ixl row route ended_at)
lets_go_decides now table ixl row route ended_at = record {
  yes = λ is. let all = parts.yes is in record { unseen = all.0.0; clear = all.0.1; approach = all.1 };
  shown = λ is. parts.shown ((is.unseen, is.clear), is.approach);
} where
  parts : Decides (none_seen (length row.sections) route.passage && all_clear table ixl row.sections && is_due route.approached ended_at now)
      ((((place : ℕ) → place < length row.sections → contains route.passage.seen place ≡ false) × AllClear table ixl row.sections) × ((route.approached ≡ false) ⊎ (approach_end ended_at ≤ now)))
  parts = both_decide _ _ _ _ (both_decide _ _ _ _ (none_seen_decides (length row.sections) route.passage) (all_clear_decides table ixl row.sections)) (due_decides route.approached ended_at now)

release_decides : (now : ℕ) (route : RouteState) → Decides (is_release_over now route.released) (IsReleaseOver now route)
release_decides now route = by_note route.released refl where
  by_note : (note : Option ℕ) → route.released ≡ note → Decides (is_release_over now note) (IsReleaseOver now route)
  by_note None is = record { yes = λ b. absurd (false≢true b); shown = λ over. absurd (none_is (sym is ∙ over.1)) }
  by_note (Some clock) is = record {
    yes = λ b. (clock, is, leb-true _ _ b);
    shown = λ over. le-leb _ _ (subst (λ c. approach_end c ≤ now) (same_Some _ _ (sym over.1 ∙ is)) over.2);
  }

pub cancel_decides : (now : ℕ) (table : Table) (ixl : IxlState) (row : Row) (route : RouteState) →
    Decides (route.cancelled && frees_cancelled now table ixl row route route.phase) (FreeByCancel now table ixl row route)
unfolding is_ended clock_of
cancel_decides now table ixl row route = both_decide _ _ _ _ (itself_decides route.cancelled) (by_phase route.phase refl) where
  Either : Type 0
  Either = ((route.phase ≡ phase.Waiting) × KnownStop now ixl row.entry)
      ⊎ ((clock : ℕ) × (done : ℕ) × (route.phase ≡ phase.Ended clock done) × (LetsGo now table ixl row route clock ⊎ IsReleaseOver now route))

  ended_decides : (clock : ℕ) →
      Decides ((none_seen (length row.sections) route.passage && all_clear table ixl row.sections && is_due route.approached clock now) || is_release_over now route.released)
      (LetsGo now table ixl row route clock ⊎ IsReleaseOver now route)
  ended_decides clock = or_decide _ _ _ _ (lets_go_decides now table ixl row route clock) (release_decides now route)

  neither : (p : Phase) → route.phase ≡ p → is_waiting p ≡ false → is_ended p ≡ false → Either → false ≡ true
  neither p is waits ends (inl e) = sym waits ∙ ap is_waiting (sym is ∙ e.0)
  neither p is waits ends (inr e) = sym ends ∙ ap is_ended (sym is ∙ e.2)

  waiting : route.phase ≡ phase.Waiting → Either → is_at_known_stop now ixl row.entry ≡ true
  waiting is (inl e) = (known_stop_decides now ixl row.entry).shown e.1
  waiting is (inr e) = absurd (false≢true (ap is_ended (sym is ∙ e.2)))

  gone : (clock done : ℕ) → route.phase ≡ phase.Ended clock done → Either →
      (none_seen (length row.sections) route.passage && all_clear table ixl row.sections && is_due route.approached clock now) || is_release_over now route.released ≡ true
  gone clock done is (inl e) = absurd (false≢true (ap is_waiting (sym is ∙ e.0)))
  gone clock done is (inr e) = (ended_decides clock).shown (subst (λ c. LetsGo now table ixl row route c ⊎ IsReleaseOver now route) (ap clock_of (sym e.2 ∙ is)) e.3)

  by_phase : (p : Phase) → route.phase ≡ p → Decides (frees_cancelled now table ixl row route p) Either
  by_phase phase.Free is = record { yes = λ b. absurd (false≢true b); shown = neither phase.Free is refl refl }
  by_phase phase.Waiting is = record { yes = λ b. inl (is, (known_stop_decides now ixl row.entry).yes b); shown = waiting is }
  by_phase phase.Proceeding is = record { yes = λ b. absurd (false≢true b); shown = neither phase.Proceeding is refl refl }
  by_phase phase.Withdrawn is = record { yes = λ b. absurd (false≢true b); shown = neither phase.Withdrawn is refl refl }
  by_phase (phase.Ended clock done) is = record { yes = λ b. inr (clock, done, is, (ended_decides clock).yes b); shown = gone clock done is }

pub frees_where_due : (now : ℕ) (table : Table) (number : ℕ) (part : StepSoFar) (row : Row) (route : RouteState) → IsRouteOf table part.ixl number row route →
    DoesWhere (FreeByCancel now table part.ixl row route) part (with_route number freed part) (freeing_by_cancel now table number part)
unfolding freeing_by_cancel
frees_where_due now table number part row route is = record {
  due = λ holds. at_one table number _ part row route is ∙ where_due _ _ _ _ (cancel_decides now table part.ixl row route) holds;
  otherwise = λ none. at_one table number _ part row route is ∙ where_not_due _ _ _ _ (cancel_decides now table part.ixl row route) none;
}

-- ---- the end of authority

withdrawn_decides : (p : Phase) → Decides (is_withdrawn p) (p ≡ phase.Withdrawn)
withdrawn_decides phase.Free = record { yes = λ is. absurd (false≢true is); shown = λ is. ap is_withdrawn is }
withdrawn_decides phase.Waiting = record { yes = λ is. absurd (false≢true is); shown = λ is. ap is_withdrawn is }
withdrawn_decides phase.Proceeding = record { yes = λ is. absurd (false≢true is); shown = λ is. ap is_withdrawn is }
withdrawn_decides phase.Withdrawn = record { yes = λ is. refl; shown = λ is. refl }
withdrawn_decides (phase.Ended clock done) = record { yes = λ is. absurd (false≢true is); shown = λ is. ap is_withdrawn is }

end_decides : (now : ℕ) (ixl : IxlState) (row : Row) (route : RouteState) → Decides (is_withdrawn route.phase && is_at_known_stop now ixl row.entry) (EndDue now ixl row route)
end_decides now ixl row route = equally _ _ _ (both_decide _ _ _ _ (withdrawn_decides route.phase) (known_stop_decides now ixl row.entry))
    (λ is. record { withdrawn = is.0; at_stop = is.1 }) (λ is. (is.withdrawn, is.at_stop))

pub ends_where_due : (now : ℕ) (table : Table) (number : ℕ) (part : StepSoFar) (row : Row) (route : RouteState) → IsRouteOf table part.ixl number row route →
    DoesWhere (EndDue now part.ixl row route) part (with_route number (come_to (phase.Ended now 0)) part) (ending_authority now table number part)
unfolding ending_authority
ends_where_due now table number part row route is = record {
  due = λ holds. at_one table number _ part row route is ∙ where_due _ _ _ _ (end_decides now part.ixl row route) holds;
  otherwise = λ none. at_one table number _ part row route is ∙ where_not_due _ _ _ _ (end_decides now part.ixl row route) none;
}

-- ---- a section by passage

-- what is asked of the next section, but for the phase
abbrev NextLetsGo : Table → IxlState → Row → RouteState → ℕ → Type 0
NextLetsGo table ixl row route done =
    ((IsTrue (contains route.passage.seen done) × (contains route.passage.occupied done ≡ false))
    × ((suc done ≡ length row.sections) ⊎ IsTrue (contains route.passage.seen (suc done))))
    × At row.sections done (IsClear table ixl)

next_decides : (table : Table) (ixl : IxlState) (row : Row) (route : RouteState) (done : ℕ) → route.passage.sections ≡ length row.sections →
    Decides (is_freeable route.passage done true && at row.sections done (is_clear table ixl)) (NextLetsGo table ixl row route done)
next_decides table ixl row route done fits = both_decide _ _ _ _
    (both_decide _ _ _ _ (both_decide _ _ _ _ (itself_decides (contains route.passage.seen done)) (not_decides (contains route.passage.occupied done)))
    (or_decide _ _ _ _ (equally _ _ _ (equal_decides (suc done) route.passage.sections) (λ e. e ∙ fits) (λ e. e ∙ sym fits)) (itself_decides (contains route.passage.seen (suc done)))))
    (at_decides row.sections done (is_clear table ixl) (IsClear table ixl) (clear_decides table ixl))

pub passage_decides : (table : Table) (ixl : IxlState) (row : Row) (route : RouteState) → route.passage.sections ≡ length row.sections →
    Decides (frees_next table ixl row route route.phase) (SomeFreeable table ixl row route)
unfolding is_ended
passage_decides table ixl row route fits = by_phase route.phase refl where
  none : (p : Phase) → route.phase ≡ p → is_ended p ≡ false → SomeFreeable table ixl row route → false ≡ true
  none p is ends some = sym ends ∙ ap is_ended (sym is ∙ some.1.ended)

  done_of : Phase → ℕ
  done_of (phase.Ended clock done) = done
  done_of _ = 0

  from : (clock done : ℕ) → route.phase ≡ phase.Ended clock done → SomeFreeable table ixl row route → NextLetsGo table ixl row route done
  from clock done is some = subst (NextLetsGo table ixl row route) (ap done_of (sym some.1.ended ∙ is))
      (((some.1.reached, some.1.left), some.1.next), some.1.clear)

  by_phase : (p : Phase) → route.phase ≡ p → Decides (frees_next table ixl row route p) (SomeFreeable table ixl row route)
  by_phase phase.Free is = record { yes = λ b. absurd (false≢true b); shown = none phase.Free is refl }
  by_phase phase.Waiting is = record { yes = λ b. absurd (false≢true b); shown = none phase.Waiting is refl }
  by_phase phase.Proceeding is = record { yes = λ b. absurd (false≢true b); shown = none phase.Proceeding is refl }
  by_phase phase.Withdrawn is = record { yes = λ b. absurd (false≢true b); shown = none phase.Withdrawn is refl }
  by_phase (phase.Ended clock done) is = equally _ _ _ (next_decides table ixl row route done fits)
      (λ h. (done, record { clock = clock; ended = is; reached = h.0.0.0; left = h.0.0.1; clear = h.1; next = h.0.1 })) (from clock done is)

pub section_where_due : (table : Table) (number : ℕ) (part : StepSoFar) (row : Row) (route : RouteState) → IsRouteOf table part.ixl number row route →
    route.passage.sections ≡ length row.sections →
    DoesWhere (SomeFreeable table part.ixl row route) part (with_route number (one_freed row route.phase) part) (freeing_next table number part)
unfolding freeing_next
section_where_due table number part row route is fits = record {
  due = λ holds. at_one table number _ part row route is ∙ where_due _ _ _ _ (passage_decides table part.ixl row route fits) holds;
  otherwise = λ none. at_one table number _ part row route is ∙ where_not_due _ _ _ _ (passage_decides table part.ixl row route fits) none;
}

-- ---- a move

over_clear_decides : (table : Table) (ixl : IxlState) (point : ℕ) → Decides (is_over_clear table ixl point) (At table.point_sections point (IsClear table ixl))
over_clear_decides table ixl point = at_decides table.point_sections point _ _ (clear_decides table ixl)

unmoved_decides : (ixl : IxlState) (point number : ℕ) → Decides (is_unmoved ixl point number) (At ixl.known_points point (λ known_point. contains known_point.moved number ≡ false))
unmoved_decides ixl point number = at_decides ixl.known_points point _ _ (λ known_point. not_decides (contains known_point.moved number))

pub move_decides : (table : Table) (ixl : IxlState) (number : ℕ) (route : RouteState) (need : Need) →
    Decides (is_move_due table ixl number route need) (MoveDue table ixl number route need)
move_decides table ixl number route need = equally _ _ _ parts
    (λ h. record { waits = h.0.0.0.0.0.0.0; goes_on = h.0.0.0.0.0.0.1; available = h.0.0.0.0.0.1; elsewhere = h.0.0.0.0.1; over_clear = h.0.0.0.1; unheld = h.0.0.1; once = h.0.1; unclosed = h.1 })
    (λ m. (((((((m.waits, m.goes_on), m.available), m.elsewhere), m.over_clear), m.unheld), m.once), m.unclosed))
  where
    parts : Decides (is_move_due table ixl number route need)
        ((((((((route.phase ≡ phase.Waiting) × (route.cancelled ≡ false)) × IsAvailable ixl need.point) × (Known ixl need.point need.side → ⊥))
        × At table.point_sections need.point (IsClear table ixl)) × (IsHeldWithAuthority table ixl need.point → ⊥)) × At ixl.known_points need.point (λ known_point. contains known_point.moved number ≡ false))
        × (LiesInClosed table ixl need.point → ⊥))
    parts = both_decide _ _ _ _ (both_decide _ _ _ _ (both_decide _ _ _ _ (both_decide _ _ _ _ (both_decide _ _ _ _ (both_decide _ _ _ _ (both_decide _ _ _ _
        (waiting_decides route.phase) (not_decides route.cancelled)) (available_decides ixl need.point)) (negation_decides _ _ (known_decides ixl need.point need.side)))
        (over_clear_decides table ixl need.point)) (negation_decides _ _ (held_with_authority_decides table ixl need.point))) (unmoved_decides ixl need.point number))
        (negation_decides _ _ (lies_in_closed_decides table ixl need.point))

pub moves_where_due : (now : ℕ) (table : Table) (number : ℕ) (need : Need) (part : StepSoFar) (row : Row) (route : RouteState) → IsRouteOf table part.ixl number row route →
    DoesWhere (MoveDue table part.ixl number route need) part (giving_move now need.point need.side part) (moving_one now table number need part)
unfolding moving_one
moves_where_due now table number need part row route is = record {
  due = λ holds. at_one table number _ part row route is ∙ where_due _ _ _ _ (move_decides table part.ixl number route need) holds;
  otherwise = λ none. at_one table number _ part row route is ∙ where_not_due _ _ _ _ (move_decides table part.ixl number route need) none;
}
