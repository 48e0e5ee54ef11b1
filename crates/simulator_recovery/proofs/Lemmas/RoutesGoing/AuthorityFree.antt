-- Two good rounds after its cancel, or more, a route is free, unless a train came or its approach counts.
use Rattle.simulator_recovery.proofs.Words.Basics.{◌≡◌, inl, inr, ℕ, suc, ◌≤◌, Bool, true, false, List, [], ◌∷◌, ◌++◌, append_assoc, length, Option, Some, None, slice_get, refl, sym, ap, subst, ◌∙◌, false≢true, same_Some}
use Rattle.simulator_recovery.proofs.Words.Links.{Each, reading_of}
use Rattle.simulator_recovery.proofs.Words.Interlockings.{IsTableOf, commanded_by, refusal, AllClear, At, count, is_proceeding, is_waiting, IxlState, RouteState, Commands, all_clocked, given, stepped, ticked, watching, StepSoFar, begun_with, empty_outbox, over, Row, SitedTable, Table, is_set, Command, Refusal, Phase, moved_at_once}
use Rattle.simulator_recovery.proofs.Words.Stations.{Site, RouteId, Once, IsStation, Event, Answer, Flowing, round, answered, happens, interlocking_stepped, WorldState, IsReached}
use Rattle.simulator_recovery.proofs.Words.Recovery.{IsUnseen, authority_rounds, AcceptsCancel, and_cancel, as_cancel_comes, StaysBelowLimit, Proceeds, ready_rounds, HasTime, IsWork, all_tried, good_rounds, IsNotSetAnew, LawsBelow, FreeLaw}
use Rattle.simulator_recovery.proofs.Lemmas.RoutesGoing.AuthorityCancels.{cancelled_at}
use Rattle.simulator_recovery.proofs.Lemmas.RoutesGoing.BetweenCancels.{many_cancelled}
use Rattle.simulator_recovery.proofs.Lemmas.RoutesGoing.BetweenSignals.{rests_keeps, route_kept}
use Rattle.simulator_recovery.proofs.Lemmas.Lamps.Cancelled.{NoCommand, OfRoute, RouteKeeps, accepted_so, none_comes, route_keep, clocked_routes}
use Rattle.simulator_recovery.proofs.Lemmas.Lamps.GivenNoMore.{RestsSo, over_rests}
use Rattle.simulator_recovery.proofs.Lemmas.Points.MovesAnswered.{rounds_both}
use Rattle.simulator_recovery.proofs.Lemmas.RoutesComing.NothingDueFrees.{nothing_waits_to_be_freed}
use Rattle.simulator_recovery.proofs.Lemmas.Rounds.Rounds.{IsAt, rounds_reached}
use Rattle.simulator_recovery.proofs.Lemmas.Ground.SignalParts.{IsQuiet, behind_ending, both_rules, over_held, watching_held}
use Rattle.simulator_recovery.proofs.Lemmas.Lamps.StopComes.{accepted_there, cancel_happens, none_behind_cancel}
use Rattle.simulator_recovery.proofs.Lemmas.Lamps.StopsGiven.{proceeding_set}

-- ---- a cancelled route stays cancelled while it is set

abbrev StaysCancelled : RouteState → Type 0
StaysCancelled route = (is_waiting route.phase ≡ false) × (is_set route.phase ≡ true → route.cancelled ≡ true)

stays_quiet : (old new : RouteState) → IsQuiet old new → StaysCancelled old → StaysCancelled new
stays_quiet old new (inl (same, kept)) is = (ap is_waiting same ∙ is.0, λ set. kept (is.1 (ap is_set (sym same) ∙ set)))
stays_quiet old new (inr (over_now, undone, was_set, kept)) is = ((over_rests new.phase over_now).0, λ set. (kept set).1 (is.1 was_set))

stays_keeps : RouteKeeps StaysCancelled
stays_keeps = record {
  quiet = stays_quiet;
  withdrawn = λ route is proceeds. (refl, λ set. is.1 (proceeding_set route.phase proceeds));
  waits_not = λ route is waits not_so. false≢true (sym is.0 ∙ waits);
}

abbrev StaysIn : ℕ → IxlState → Type 0
StaysIn number ixl = (route : RouteState) → slice_get ixl.routes number ≡ Some route → StaysCancelled route

-- What the parts of a step keep of a route is so after a cancel of it, which leaves it as it was but that it is cancelled.
cancel_keeps : (F : RouteState → Type 0) → RouteKeeps F → (site : Site) (table : Table) (world : WorldState) (route : RouteId) (one : RouteState) → refusal (reading_of world.interlocking.clock) table (Command.Cancel route) (all_clocked (reading_of world.interlocking.clock) world.interlocking.ixl) ≡ None
    → slice_get world.interlocking.ixl.routes route.0 ≡ Some one → F (record one { cancelled = true }) → OfRoute route.0 F (interlocking_stepped site table (Commands (Command.Cancel route)) world).interlocking.ixl.routes []
unfolding interlocking_stepped stepped ticked given moved_at_once
cancel_keeps F keeps site table world route one none_so there so =
    behind_ending now table (OfRoute route.0 F) (route_keep now table NoCommand none_comes route.0 F keeps).rules watched
    (both_rules now table NoCommand (OfRoute route.0 F) (route_keep now table NoCommand none_comes route.0 F keeps) watched watched_so)
  where
    now : ℕ
    now = reading_of world.interlocking.clock

    clocked_part : StepSoFar
    clocked_part = record (begun_with world.interlocking.ixl empty_outbox) { ixl = all_clocked now world.interlocking.ixl }

    heard_by : Option Refusal → StepSoFar
    heard_by cause = moved_at_once now cause (Command.Cancel route) (record clocked_part { ixl = commanded_by now cause (Command.Cancel route) clocked_part.ixl })

    heard : StepSoFar
    heard = heard_by (refusal now table (Command.Cancel route) clocked_part.ixl)

    watched : StepSoFar
    watched = over (watching table) (count table) heard

    heard_so : OfRoute route.0 F heard.ixl.routes []
    heard_so = subst (λ (cause : Option Refusal). OfRoute route.0 F (heard_by cause).ixl.routes []) (sym none_so) (λ later e.
        let same = same_Some (record one { cancelled = true }) later (sym (cancelled_at now clocked_part.ixl route one (ap (λ (routes : List RouteState). slice_get routes route.0) (clocked_routes now world.interlocking.ixl) ∙ there)) ∙ e)
        in subst F same so)

    watched_so : OfRoute route.0 F watched.ixl.routes watched.ixl.known_signals
    watched_so = over_held now table (OfRoute route.0 F) (route_keep now table NoCommand none_comes route.0 F keeps).rules (watching table)
        (watching_held now table NoCommand (OfRoute route.0 F) (route_keep now table NoCommand none_comes route.0 F keeps)) (count table) heard heard_so

-- so it is where the cancel is accepted
pub kept_behind_cancel : (F : RouteState → Type 0) → RouteKeeps F → (site : Site) (table : Table) (world : WorldState) (route : RouteId) (one : RouteState) → answered site table (Event.Request (Command.Cancel route)) world ≡ Answer.Accepted
    → slice_get world.interlocking.ixl.routes route.0 ≡ Some one → F (record one { cancelled = true }) → OfRoute route.0 F (happens site table (Event.Request (Command.Cancel route)) world).interlocking.ixl.routes []
unfolding happens
kept_behind_cancel F keeps site table world route one accepted = cancel_keeps F keeps site table world route one (accepted_so site table world route accepted)

not_waiting : (p : Phase) → is_proceeding p ≡ true → is_waiting p ≡ false
not_waiting Phase.Free e = refl
not_waiting Phase.Waiting e = absurd (false≢true e)
not_waiting Phase.Proceeding e = refl
not_waiting Phase.Withdrawn e = refl
not_waiting (Phase.Ended clock done) e = refl

cancelled_stays : (site : Site) (table : Table) (world : WorldState) (route : RouteId) (one : RouteState) → answered site table (Event.Request (Command.Cancel route)) world ≡ Answer.Accepted
    → slice_get world.interlocking.ixl.routes route.0 ≡ Some one → is_proceeding one.phase ≡ true → StaysIn route.0 (happens site table (Event.Request (Command.Cancel route)) world).interlocking.ixl
cancelled_stays site table world route one accepted there proceeds = kept_behind_cancel StaysCancelled stays_keeps site table world route one accepted there (not_waiting one.phase proceeds, λ set. refl)

-- ---- two rounds later, or more

module _ (frees : FreeLaw) (laws : LawsBelow) (between : List Event) (later_rounds : List (List Event)) (before : List Event) (more : List (List Event)) (flowing : Flowing) (route : RouteId) (row : Row) (once : Once flowing.state.sited.site)
    (station : IsStation flowing.state.sited.site) (is_table : IsTableOf flowing.state.sited.site flowing.state.sited.table) (reached : IsReached flowing.state.sited.site flowing.state.sited.table flowing.state.run) (work : Each IsWork between)
    (works : Each (Each IsWork) later_rounds) (before_works : Each IsWork before) (more_works : Each (Each IsWork) more) (apart : IsNotSetAnew route.0 more (good_rounds (between ∷ (later_rounds ++ and_cancel route before ∷ [])) flowing)) (can : HasTime (suc (length (later_rounds ++ and_cancel route before ∷ more))) flowing.state.run)
    (there : slice_get flowing.state.sited.table.rows route.0 ≡ Some row) (long : ready_rounds ≤ suc (suc (length later_rounds))) (enough : authority_rounds ≤ length more)
    (below : StaysBelowLimit flowing.state.sited.site row.entry (later_rounds ++ and_cancel route before ∷ more) (all_tried between (round flowing)))
    (proceeds : At (as_cancel_comes (between ∷ later_rounds) before flowing).state.run.interlocking.ixl.routes route.0 Proceeds) (accepted : AcceptsCancel route (as_cancel_comes (between ∷ later_rounds) before flowing).state) where
  abbrev sited : SitedTable
  sited = flowing.state.sited

  -- after the cancel
  abbrev first : Flowing
  first = good_rounds (between ∷ (later_rounds ++ and_cancel route before ∷ [])) flowing

  abbrev end : IxlState
  end = (good_rounds (between ∷ (later_rounds ++ and_cancel route before ∷ more)) flowing).state.run.interlocking.ixl

  at : (rounds : List (List Event)) → IsAt sited (good_rounds (between ∷ rounds) flowing).state
  at rounds = rounds_reached laws sited (between ∷ rounds) flowing (record { same = refl; reached = reached })

  happened : IsAt sited (as_cancel_comes (between ∷ later_rounds) before flowing).state × (first.state.run ≡ happens sited.site sited.table (Event.Request (Command.Cancel route)) (as_cancel_comes (between ∷ later_rounds) before flowing).state.run)
  happened = cancel_happens laws (between ∷ later_rounds) before flowing route reached

  end_is : good_rounds (between ∷ (later_rounds ++ and_cancel route before ∷ more)) flowing ≡ good_rounds more first
  end_is = ap (λ (l : List (List Event)). good_rounds (between ∷ l) flowing) (sym (append_assoc later_rounds (and_cancel route before ∷ []) more)) ∙ rounds_both (between ∷ (later_rounds ++ and_cancel route before ∷ [])) more flowing

  -- what is kept of the route is so till then
  kept : (F : RouteState → Type 0) → RouteKeeps F → OfRoute route.0 F first.state.run.interlocking.ixl.routes [] → OfRoute route.0 F end.routes []
  kept F keeps is = subst (λ (f : Flowing). OfRoute route.0 F f.state.run.interlocking.ixl.routes []) (sym end_is) (route_kept laws sited route.0 F keeps more first more_works apart (at (later_rounds ++ and_cancel route before ∷ [])) is)

  stays_end : StaysIn route.0 end
  stays_end = kept StaysCancelled stays_keeps (subst (λ (w : WorldState). StaysIn route.0 w.interlocking.ixl) (sym happened.1) (cancelled_stays sited.site sited.table (as_cancel_comes (between ∷ later_rounds) before flowing).state.run route proceeds.0
      (accepted_there (between ∷ later_rounds) before flowing route happened.0 accepted) proceeds.1 (ap is_proceeding proceeds.2)))

  rests_end : OfRoute route.0 RestsSo end.routes []
  rests_end = kept RestsSo rests_keeps (λ one e. none_behind_cancel laws (between ∷ later_rounds) before flowing route row reached there accepted route.0 row one (there, e) refl)

  -- its authority has ended where it is set
  pub ended_behind_cancel : (state : RouteState) → slice_get (good_rounds (between ∷ (later_rounds ++ and_cancel route before ∷ more)) flowing).state.run.interlocking.ixl.routes route.0 ≡ Some state → is_set state.phase ≡ true
      → (state.cancelled ≡ true) × (clock : ℕ) × (done : ℕ) × (state.phase ≡ Phase.Ended clock done)
  ended_behind_cancel state is set = let ended = by_phase state.phase refl in (stays.1 set, ended.0, ended.1, ended.2)
    where
      stays : StaysCancelled state
      stays = stays_end state is

      by_phase : (p : Phase) → state.phase ≡ p → (clock : ℕ) × (done : ℕ) × (state.phase ≡ Phase.Ended clock done)
      by_phase Phase.Free e = absurd (false≢true (sym (ap is_set e) ∙ set))
      by_phase Phase.Waiting e = absurd (false≢true (sym stays.0 ∙ ap is_waiting e))
      by_phase Phase.Proceeding e = absurd (false≢true (sym (rests_end state is).1 ∙ ap is_proceeding e))
      by_phase Phase.Withdrawn e = absurd (many_cancelled laws more between later_rounds before flowing route row once station is_table reached work works before_works more_works can there long enough below proceeds accepted
          (record { number = route.0; row = row; route = state; is_route = (there, is); entry = refl; withdrawn = e }) apart)
      by_phase (Phase.Ended clock done) e = (clock, done, e)

  pub free_behind_cancel : (state : RouteState) → slice_get (good_rounds (between ∷ (later_rounds ++ and_cancel route before ∷ more)) flowing).state.run.interlocking.ixl.routes route.0 ≡ Some state → IsUnseen row state
      → AllClear flowing.state.sited.table (good_rounds (between ∷ (later_rounds ++ and_cancel route before ∷ more)) flowing).state.run.interlocking.ixl row.sections → state.approached ≡ false → is_set state.phase ≡ false
  free_behind_cancel state is unseen clear unapproached = by_set (is_set state.phase) refl
    where
      by_set : (b : Bool) → is_set state.phase ≡ b → is_set state.phase ≡ false
      by_set false e = e
      by_set true e = let ended = ended_behind_cancel state is e in absurd (nothing_waits_to_be_freed frees sited.site sited.table (good_rounds (between ∷ (later_rounds ++ and_cancel route before ∷ more)) flowing).state.run route.0 row state
          (at (later_rounds ++ and_cancel route before ∷ more)).reached (there, is) (λ reading. (ended.0, inr (ended.1, ended.2, ended.3, inl (record { unseen = unseen; clear = clear; approach = inl unapproached })))))
