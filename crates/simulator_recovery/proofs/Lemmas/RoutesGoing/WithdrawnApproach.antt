-- So long after its cancel a route is free, also where its approach counted, unless a train came.
use Rattle.simulator_recovery.proofs.Words.Basics.{◌≡◌, inl, inr, ℕ, Bool, true, false, Some, slice_get, refl, sym, ap, subst, ◌∙◌, false≢true, suc, ◌+◌, ◌*◌, ◌≤◌, List, [], ◌∷◌, ◌++◌, append_assoc, length, arith, length-append, same_Some}
use Rattle.simulator_recovery.proofs.Words.Links.{reading_of, Each}
use Rattle.simulator_recovery.proofs.Words.Interlockings.{At, LetsGo, is_proceeding, is_waiting, RouteState, Commands, Row, Table, is_set, Command, Phase, IsTableOf, AllClear, IsRouteOf, IxlState, SitedTable}
use Rattle.simulator_recovery.proofs.Words.Stations.{Site, RouteId, Event, Answer, answered, happens, WorldState, IsReached, Once, IsStation, Flowing, round}
use Rattle.simulator_recovery.proofs.Words.Recovery.{FreeLaw, IsUnseen, authority_rounds, AcceptsCancel, and_cancel, as_cancel_comes, StaysBelowLimit, Proceeds, ready_rounds, HasTime, IsWork, all_tried, clocks_of, good_rounds, rounds_later, approach_rounds, approach_time_rounds, IsNotSetAnew, LawsBelow}
use Rattle.simulator_recovery.proofs.Lemmas.RoutesGoing.AuthorityFree.{kept_behind_cancel, ended_behind_cancel}
use Rattle.simulator_recovery.proofs.Lemmas.Lamps.Cancelled.{RouteKeeps, OfRoute}
use Rattle.simulator_recovery.proofs.Lemmas.Rounds.Clocks.{calm_still}
use Rattle.simulator_recovery.proofs.Lemmas.RoutesComing.NothingDueFrees.{nothing_ended_waits}
use Rattle.simulator_recovery.proofs.Lemmas.Ground.SignalParts.{EndsFrom, IsQuiet}
use Rattle.simulator_recovery.proofs.Lemmas.Lamps.StopsGiven.{proceeding_set, waiting_set}
use Rattle.simulator_recovery.proofs.Lemmas.RoutesGoing.BetweenCancels.{cancel_works}
use Rattle.simulator_recovery.proofs.Lemmas.RoutesGoing.BetweenSignals.{anew_two, route_kept}
use Rattle.simulator_recovery.proofs.Lemmas.Points.MovesAnswered.{rounds_both}
use Rattle.simulator_recovery.proofs.Lemmas.Links.Ready.{fewer_time}
use Rattle.simulator_recovery.proofs.Lemmas.Rounds.Rounds.{IsAt, rounds_reached, take_their_time}
use Rattle.simulator_recovery.proofs.Lemmas.Windows.WindowsSpoken.{each_two}
use Rattle.simulator_recovery.proofs.Lemmas.RoutesGoing.RoundsFree.{approach_over, rounds_free}
use Rattle.simulator_recovery.proofs.Lemmas.RoutesGoing.WithdrawnClocks.{endings_passed}

-- ---- a cancelled route whose authority has ended: it stays so while it is set, and is free in the step of its cancel where it lets itself go

-- its authority ended at a reading of which this is so
abbrev pub HasEnded : (ℕ → Type 0) → Phase → Type 0
HasEnded P (Phase.Ended clock done) = P clock
HasEnded P _ = ⊥

-- so it is while it is set, and it is cancelled
abbrev pub StaysEnded : (ℕ → Type 0) → RouteState → Type 0
StaysEnded P route = is_set route.phase ≡ true → HasEnded P route.phase × (route.cancelled ≡ true)

ended_on : (P : ℕ → Type 0) (old new : Phase) → EndsFrom old new → HasEnded P old → HasEnded P new
ended_on P (Phase.Ended clock done) (Phase.Ended later more) from is = subst P (sym from) is
ended_on P (Phase.Ended clock done) Phase.Free from is = absurd from
ended_on P (Phase.Ended clock done) Phase.Waiting from is = absurd from
ended_on P (Phase.Ended clock done) Phase.Proceeding from is = absurd from
ended_on P (Phase.Ended clock done) Phase.Withdrawn from is = absurd from
ended_on P Phase.Free new from is = absurd is
ended_on P Phase.Waiting new from is = absurd is
ended_on P Phase.Proceeding new from is = absurd is
ended_on P Phase.Withdrawn new from is = absurd is

ended_quiet : (P : ℕ → Type 0) (old new : RouteState) → IsQuiet old new → StaysEnded P old → StaysEnded P new
ended_quiet P old new (inl (same, kept)) is set = let was = is (ap is_set (sym same) ∙ set) in (subst (HasEnded P) (sym same) was.0, kept was.1)
ended_quiet P old new (inr (over, undone, was_set, kept)) is set = let was = is was_set in let now = kept set in (ended_on P old.phase new.phase now.0 was.0, now.1 was.1)

not_proceeding : (P : ℕ → Type 0) (p : Phase) → HasEnded P p → is_proceeding p ≡ true → ⊥
not_proceeding P (Phase.Ended clock done) is e = false≢true e
not_proceeding P Phase.Free is e = is
not_proceeding P Phase.Waiting is e = is
not_proceeding P Phase.Proceeding is e = is
not_proceeding P Phase.Withdrawn is e = is

not_waiting : (P : ℕ → Type 0) (p : Phase) → HasEnded P p → is_waiting p ≡ true → ⊥
not_waiting P (Phase.Ended clock done) is e = false≢true e
not_waiting P Phase.Free is e = is
not_waiting P Phase.Waiting is e = is
not_waiting P Phase.Proceeding is e = is
not_waiting P Phase.Withdrawn is e = is

pub ended_keeps : (P : ℕ → Type 0) → RouteKeeps (StaysEnded P)
ended_keeps P = record {
  quiet = ended_quiet P;
  withdrawn = λ route is proceeds. absurd (not_proceeding P route.phase (is (proceeding_set route.phase proceeds)).0 proceeds);
  waits_not = λ route is waits not_so. not_waiting P route.phase (is (waiting_set route.phase waits)).0 waits;
}

-- ---- the step of the cancel

pub ended_free_at_once : FreeLaw → (site : Site) (table : Table) (world : WorldState) (route : RouteId) (row : Row) (state : RouteState) (clock freed : ℕ) → IsReached site table world → slice_get table.rows route.0 ≡ Some row
    → At world.interlocking.ixl.routes route.0 (λ one. one.phase ≡ Phase.Ended clock freed) → answered site table (Event.Request (Command.Cancel route)) world ≡ Answer.Accepted
    → slice_get (happens site table (Event.Request (Command.Cancel route)) world).interlocking.ixl.routes route.0 ≡ Some state
    → LetsGo (reading_of (happens site table (Event.Request (Command.Cancel route)) world).interlocking.clock) table (happens site table (Event.Request (Command.Cancel route)) world).interlocking.ixl row state clock → is_set state.phase ≡ false
unfolding happens
ended_free_at_once law site table world route row state clock freed reached there ended accepted is goes = by_set (is_set state.phase) refl
  where
    behind : WorldState
    behind = happens site table (Event.Request (Command.Cancel route)) world

    IsIt : ℕ → Type 0
    IsIt other = other ≡ clock

    stays : StaysEnded IsIt state
    stays = kept_behind_cancel (StaysEnded IsIt) (ended_keeps IsIt) site table world route ended.0 accepted ended.1 (λ set. (subst (HasEnded IsIt) (sym ended.2) refl, refl)) state is

    goes_now : LetsGo (reading_of world.interlocking.clock) table behind.interlocking.ixl row state clock
    goes_now = subst (λ (c : ℕ). LetsGo (reading_of c) table behind.interlocking.ixl row state clock) (calm_still site table (Event.Request (Command.Cancel route)) world tt).clock goes

    by_phase : (p : Phase) → state.phase ≡ p → HasEnded IsIt p → state.cancelled ≡ true → ⊥
    by_phase (Phase.Ended other more) e same cancelled = nothing_ended_waits law site table (Commands (Command.Cancel route)) world route.0 row state other more reached (there, is) cancelled e
        (inl (subst (LetsGo (reading_of world.interlocking.clock) table behind.interlocking.ixl row state) (sym same) goes_now))
    by_phase Phase.Free e so cancelled = so
    by_phase Phase.Waiting e so cancelled = so
    by_phase Phase.Proceeding e so cancelled = so
    by_phase Phase.Withdrawn e so cancelled = so

    by_set : (b : Bool) → is_set state.phase ≡ b → is_set state.phase ≡ false
    by_set false e = e
    by_set true e = let so = stays e in absurd (by_phase state.phase refl so.0 so.1)

-- ---- so long after its cancel a route is free, also where its approach counted, unless a train came

-- ---- a cancelled route whose authority has ended

-- at this reading at the latest
abbrev By : ℕ → ℕ → Type 0
By last clock = clock ≤ last

abbrev EndedIn : ℕ → ℕ → IxlState → Type 0
EndedIn last number ixl = OfRoute number (StaysEnded (By last)) ixl.routes []

-- ---- so many rounds

-- each clock can go on still after some rounds
time_still : (a b : ℕ) (clocks : List ℕ) → Each (λ clock. clock + 10000 * (a + b) ≤ 9000000000000000) clocks → Each (λ clock. clock + 10000 * b ≤ 9000000000000000) (rounds_later a clocks)
time_still a b [] each = tt
time_still a b (clock ∷ clocks) each = let one = each.0 in (omega (arith, one), time_still a b clocks each.1)

-- ---- so long after the end of its authority

module _ (frees : FreeLaw) (times : LawsBelow) (more : List (List Event)) (start : Flowing) (number : ℕ) (row : Row) (once : Once start.state.sited.site) (station : IsStation start.state.sited.site)
    (reached : IsReached start.state.sited.site start.state.sited.table start.state.run) (works : Each (Each IsWork) more) (apart : IsNotSetAnew number more start) (can : HasTime (length more) start.state.run)
    (there : slice_get start.state.sited.table.rows number ≡ Some row) (far : approach_time_rounds ≤ length more) (ended : EndedIn (reading_of start.state.run.interlocking.clock) number start.state.run.interlocking.ixl) where
  abbrev sited_so : SitedTable
  sited_so = start.state.sited

  abbrev last : ℕ
  last = reading_of start.state.run.interlocking.clock

  abbrev end : Flowing
  end = good_rounds more start

  ended_end : EndedIn last number end.state.run.interlocking.ixl
  ended_end = route_kept times sited_so number (StaysEnded (By last)) (ended_keeps (By last)) more start works apart (record { same = refl; reached = reached }) ended

  frees_it : (state : RouteState) (clock done : ℕ) → slice_get end.state.run.interlocking.ixl.routes number ≡ Some state → IsUnseen row state → AllClear sited_so.table end.state.run.interlocking.ixl row.sections → state.phase ≡ Phase.Ended clock done → clock ≤ last
      → state.cancelled ≡ true → ⊥
  frees_it state clock done is unseen clear ends by cancelled = rounds_free frees times more start reached works number row state clock done (there, is) cancelled ends
      (inl (record { unseen = unseen; clear = clear; approach = inr (approach_over times more start once station reached works can far clock by) })) (omega (arith, far))

  pub free_later : (state : RouteState) → slice_get (good_rounds more start).state.run.interlocking.ixl.routes number ≡ Some state → IsUnseen row state → AllClear start.state.sited.table (good_rounds more start).state.run.interlocking.ixl row.sections → is_set state.phase ≡ false
  free_later state is unseen clear = by_set (is_set state.phase) refl
    where
      by_phase : (p : Phase) → state.phase ≡ p → HasEnded (By last) state.phase → state.cancelled ≡ true → ⊥
      by_phase (Phase.Ended clock done) e by cancelled = frees_it state clock done is unseen clear e (subst (HasEnded (By last)) e by) cancelled
      by_phase Phase.Free e by cancelled = subst (HasEnded (By last)) e by
      by_phase Phase.Waiting e by cancelled = subst (HasEnded (By last)) e by
      by_phase Phase.Proceeding e by cancelled = subst (HasEnded (By last)) e by
      by_phase Phase.Withdrawn e by cancelled = subst (HasEnded (By last)) e by

      by_set : (b : Bool) → is_set state.phase ≡ b → is_set state.phase ≡ false
      by_set false e = e
      by_set true e = let so = ended_end state is e in absurd (by_phase state.phase refl so.0 so.1)

pub ended_free_later : FreeLaw → LawsBelow → (more : List (List Event)) (flowing : Flowing) (number : ℕ) (row : Row) (route : RouteState) (clock freed : ℕ) → Once flowing.state.sited.site → IsStation flowing.state.sited.site
    → IsReached flowing.state.sited.site flowing.state.sited.table flowing.state.run → Each (Each IsWork) more → IsNotSetAnew number more flowing → HasTime (length more) flowing.state.run → approach_time_rounds ≤ length more
    → IsRouteOf flowing.state.sited.table flowing.state.run.interlocking.ixl number row route → route.cancelled ≡ true → route.phase ≡ Phase.Ended clock freed
    → (state : RouteState) → slice_get (good_rounds more flowing).state.run.interlocking.ixl.routes number ≡ Some state → IsUnseen row state → AllClear flowing.state.sited.table (good_rounds more flowing).state.run.interlocking.ixl row.sections → is_set state.phase ≡ false
ended_free_later frees times more flowing number row route clock freed once station reached works apart can far is cancelled ended = free_later frees times more flowing number row once station reached works apart can is.0 far
    (λ state e set. let same = same_Some route state (sym is.1 ∙ e) in subst (λ (r : RouteState). HasEnded (By (reading_of flowing.state.run.interlocking.clock)) r.phase × (r.cancelled ≡ true)) same
    (subst (HasEnded (By (reading_of flowing.state.run.interlocking.clock))) (sym ended) (endings_passed flowing.state.sited.site flowing.state.sited.table flowing.state.run reached number route is.1 clock freed ended), cancelled))

-- ---- so long after the cancel

module _ (frees : FreeLaw) (laws : LawsBelow) (between : List Event) (later_rounds : List (List Event)) (before : List Event) (some more : List (List Event)) (flowing : Flowing) (route : RouteId) (row : Row) (once : Once flowing.state.sited.site)
    (station : IsStation flowing.state.sited.site) (is_table : IsTableOf flowing.state.sited.site flowing.state.sited.table) (reached : IsReached flowing.state.sited.site flowing.state.sited.table flowing.state.run) (work : Each IsWork between)
    (works : Each (Each IsWork) later_rounds) (before_works : Each IsWork before) (all_works : Each (Each IsWork) (some ++ more)) (all_apart : IsNotSetAnew route.0 (some ++ more) (good_rounds (between ∷ (later_rounds ++ and_cancel route before ∷ [])) flowing))
    (can : HasTime (suc (length (later_rounds ++ and_cancel route before ∷ (some ++ more)))) flowing.state.run) (there : slice_get flowing.state.sited.table.rows route.0 ≡ Some row) (long : ready_rounds ≤ suc (suc (length later_rounds)))
    (enough : length some ≡ authority_rounds) (far : approach_rounds ≤ length (some ++ more))
    (below : StaysBelowLimit flowing.state.sited.site row.entry (later_rounds ++ and_cancel route before ∷ some) (all_tried between (round flowing)))
    (proceeds : At (as_cancel_comes (between ∷ later_rounds) before flowing).state.run.interlocking.ixl.routes route.0 Proceeds) (accepted : AcceptsCancel route (as_cancel_comes (between ∷ later_rounds) before flowing).state) where
  abbrev sited : SitedTable
  sited = flowing.state.sited

  times : LawsBelow
  times = laws

  abbrev front : List (List Event)
  front = later_rounds ++ and_cancel route before ∷ some

  -- after the cancel, and two rounds later
  abbrev first : Flowing
  first = good_rounds (between ∷ (later_rounds ++ and_cancel route before ∷ [])) flowing

  abbrev two : Flowing
  two = good_rounds (between ∷ front) flowing

  behind_is : good_rounds (between ∷ (later_rounds ++ and_cancel route before ∷ (some ++ more))) flowing ≡ good_rounds more two
  behind_is = ap (λ (l : List (List Event)). good_rounds (between ∷ l) flowing) (sym (append_assoc later_rounds (and_cancel route before ∷ some) more)) ∙ rounds_both (between ∷ front) more flowing

  at_two : IsAt sited two.state
  at_two = rounds_reached times sited (between ∷ front) flowing (record { same = refl; reached = reached })

  some_works : Each (Each IsWork) some × Each (Each IsWork) more
  some_works = each_two (Each IsWork) some more all_works

  some_apart : IsNotSetAnew route.0 some first × IsNotSetAnew route.0 more (good_rounds some first)
  some_apart = anew_two route.0 some more first all_apart

  two_is : two ≡ good_rounds some first
  two_is = ap (λ (l : List (List Event)). good_rounds (between ∷ l) flowing) (sym (append_assoc later_rounds (and_cancel route before ∷ []) some)) ∙ rounds_both (between ∷ (later_rounds ++ and_cancel route before ∷ [])) some flowing

  -- ---- the clocks

  count_front : length front ≡ length later_rounds + suc (length some)
  count_front = length-append later_rounds (and_cancel route before ∷ some)

  count_some : length (some ++ more) ≡ length some + length more
  count_some = length-append some more

  count_all : length (later_rounds ++ and_cancel route before ∷ (some ++ more)) ≡ length later_rounds + suc (length (some ++ more))
  count_all = length-append later_rounds (and_cancel route before ∷ (some ++ more))

  can_both : HasTime (length (between ∷ front) + length more) flowing.state.run
  can_both = fewer_time (length (between ∷ front) + length more) (suc (length (later_rounds ++ and_cancel route before ∷ (some ++ more)))) (clocks_of flowing.state.run) (let a = count_front in let b = count_some in let c = count_all in omega (arith, a, b, c)) can

  can_front : HasTime (suc (length front)) flowing.state.run
  can_front = fewer_time (suc (length front)) (length (between ∷ front) + length more) (clocks_of flowing.state.run) (omega arith) can_both

  clocks_two : clocks_of two.state.run ≡ rounds_later (length (between ∷ front)) (clocks_of flowing.state.run)
  clocks_two = take_their_time times (between ∷ front) flowing once station reached (work, cancel_works later_rounds before route some works before_works some_works.0) can_front

  can_two : HasTime (length more) two.state.run
  can_two = subst (Each (λ clock. clock + 10000 * length more ≤ 9000000000000000)) (sym clocks_two) (time_still (length (between ∷ front)) (length more) (clocks_of flowing.state.run) can_both)

  far_more : approach_time_rounds ≤ length more
  far_more = let count = count_some in omega (arith, far, enough, count)

  -- ---- the route

  ended_two : EndedIn (reading_of two.state.run.interlocking.clock) route.0 two.state.run.interlocking.ixl
  ended_two state is set =
      let ended = ended_behind_cancel frees laws between later_rounds before some flowing route row once station is_table reached work works before_works some_works.0 some_apart.0 can_front there long (omega (arith, enough)) below proceeds accepted state is set
      in (subst (HasEnded (By (reading_of two.state.run.interlocking.clock))) (sym ended.3) (endings_passed sited.site sited.table two.state.run at_two.reached route.0 state is ended.1 ended.2 ended.3), ended.0)

  pub free_behind_approach : (state : RouteState) → slice_get (good_rounds (between ∷ (later_rounds ++ and_cancel route before ∷ (some ++ more))) flowing).state.run.interlocking.ixl.routes route.0 ≡ Some state → IsUnseen row state
      → AllClear flowing.state.sited.table (good_rounds (between ∷ (later_rounds ++ and_cancel route before ∷ (some ++ more))) flowing).state.run.interlocking.ixl row.sections → is_set state.phase ≡ false
  free_behind_approach state is unseen clear = free_later frees times more two route.0 row (subst (λ (s : SitedTable). Once s.site) (sym at_two.same) once) (subst (λ (s : SitedTable). IsStation s.site) (sym at_two.same) station)
      (subst (λ (s : SitedTable). IsReached s.site s.table two.state.run) (sym at_two.same) at_two.reached) some_works.1 (subst (IsNotSetAnew route.0 more) (sym two_is) some_apart.1) can_two (subst (λ (s : SitedTable). slice_get s.table.rows route.0 ≡ Some row) (sym at_two.same) there) far_more ended_two
      state (ap (λ (f : Flowing). slice_get f.state.run.interlocking.ixl.routes route.0) (sym behind_is) ∙ is) unseen
      (subst (λ (s : SitedTable). AllClear s.table (good_rounds more two).state.run.interlocking.ixl row.sections) (sym at_two.same) (subst (λ (f : Flowing). AllClear sited.table f.state.run.interlocking.ixl row.sections) behind_is clear))
