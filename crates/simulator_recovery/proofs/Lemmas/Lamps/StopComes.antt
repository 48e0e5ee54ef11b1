-- A signal from which no route proceeds, or waits to, is at stop after the next good round.
use Rattle.simulator_recovery.proofs.Words.Basics.{◌≡◌, ℕ, suc, ◌+◌, ◌<◌, ◌≤◌, List, [], ◌∷◌, ◌++◌, append_assoc, length, Some, None, slice_get, refl, sym, ap, subst, ◌∙◌, arith}
use Rattle.simulator_recovery.proofs.Words.Links.{Each}
use Rattle.simulator_recovery.proofs.Words.Interlockings.{IsRowOf, IsTableOf, Row, SitedTable, Table, Cancel, Command}
use Rattle.simulator_recovery.proofs.Words.Stations.{Site, RouteId, Once, IsRouteOf, IsStation, Event, Request, Accepted, Flowing, round, answered, happens, refusal, WorldState, Played, after, IsReached}
use Rattle.simulator_recovery.proofs.Words.Recovery.{HasHandedOver, AcceptsCancel, GivesNoMore, IsAtStop, NoneProceeds, and_cancel, as_cancel_comes, StaysBelowLimit, link_rounds, HasTime, IsWork, all_tried, good_rounds, LawsBelow}
use Rattle.simulator_recovery.proofs.Lemmas.Lamps.ConfirmedStops.{stops_given}
use Rattle.simulator_recovery.proofs.Lemmas.Lamps.Cancelled.{cancel_leaves_none}
use Rattle.simulator_recovery.proofs.Lemmas.Lamps.GivenNoMore.{round_gives_no_more}
use Rattle.simulator_recovery.proofs.Lemmas.Links.HandedOver.{hands_over}
use Rattle.simulator_recovery.proofs.Lemmas.Ground.EndCalls.{each_both}
use Rattle.simulator_recovery.proofs.Lemmas.Links.Ready.{count_front}
use Rattle.simulator_recovery.proofs.Lemmas.Rounds.Rounds.{IsAt, round_reached, rounds_reached, tried_happens, work_reached}
use Rattle.simulator_recovery.proofs.Lemmas.Lamps.SeenSignals.{falls_to_stop}
use Rattle.simulator_recovery.proofs.Lemmas.Ground.StationKeeps.{all_at}

-- the last round, and the last that came after it
pub last_round : (rounds : List (List Event)) (last : List Event) (flowing : Flowing) → good_rounds (rounds ++ last ∷ []) flowing ≡ all_tried last (round (good_rounds rounds flowing))
last_round [] last flowing = refl
last_round (between ∷ later) last flowing = last_round later last (all_tried between (round flowing))

pub last_tried : (before : List Event) (last : Event) (flowing : Flowing) → (all_tried (before ++ last ∷ []) flowing).state ≡ after (all_tried before flowing).state last
last_tried [] last flowing = refl
last_tried (first ∷ before) last flowing = last_tried before last (record flowing { state = after flowing.state first })

-- the world refuses no request
pub request_happens : (site : Site) (world : WorldState) (command : Command) → refusal site (Request command) world ≡ None
unfolding refusal
request_happens site world command = refl

pub stop_comes : LawsBelow → (between : List Event) (later_rounds : List (List Event)) (flowing : Flowing) (signal : ℕ) → Once flowing.state.sited.site → IsStation flowing.state.sited.site
    → IsTableOf flowing.state.sited.site flowing.state.sited.table → IsReached flowing.state.sited.site flowing.state.sited.table flowing.state.run → Each IsWork between → Each (Each IsWork) later_rounds
    → HasTime (suc (1 + length later_rounds)) flowing.state.run → signal < length flowing.state.sited.site.signals → link_rounds ≤ suc (length later_rounds)
    → StaysBelowLimit flowing.state.sited.site signal (later_rounds ++ [] ∷ []) (all_tried between (round flowing))
    → NoneProceeds flowing.state.sited.table (good_rounds (between ∷ later_rounds) flowing).state.run.interlocking.ixl signal
    → IsAtStop signal (good_rounds (between ∷ (later_rounds ++ [] ∷ [])) flowing).state.run
stop_comes laws between later_rounds flowing signal once station is_table reached work works can few long below none =
    falls_to_stop laws sited.site sited.table old.state.run new.state.run signal once station is_table at_old.reached at_new.reached few over (stops_given sited.site sited.table old.state.run signal at_old.reached none) no_more
  where
    sited : SitedTable
    sited = flowing.state.sited

    old : Flowing
    old = good_rounds (between ∷ later_rounds) flowing

    new : Flowing
    new = good_rounds (between ∷ (later_rounds ++ [] ∷ [])) flowing

    at_old : IsAt sited old.state
    at_old = rounds_reached laws sited (between ∷ later_rounds) flowing (record { same = refl; reached = reached })

    at_new : IsAt sited new.state
    at_new = rounds_reached laws sited (between ∷ (later_rounds ++ [] ∷ [])) flowing (record { same = refl; reached = reached })

    time : HasTime (suc (length (later_rounds ++ [] ∷ []))) flowing.state.run
    time = let count = count_front later_rounds [] in subst (λ (n : ℕ). HasTime n flowing.state.run) (omega (arith, count)) can

    over : HasHandedOver signal old.state.run new.state.run
    over = hands_over laws between later_rounds [] flowing signal once station is_table reached work (each_both (Each IsWork) later_rounds ([] ∷ []) works (tt, tt)) time (omega (arith, few)) long below

    none_there : NoneProceeds old.state.sited.table old.state.run.interlocking.ixl signal
    none_there = subst (λ (s : SitedTable). NoneProceeds s.table old.state.run.interlocking.ixl signal) (sym at_old.same) none

    no_more : GivesNoMore signal old.state.run.interlocking.ixl new.state.run.interlocking.ixl
    no_more = subst (λ (f : Flowing). GivesNoMore signal old.state.run.interlocking.ixl f.state.run.interlocking.ixl) (sym (last_round (between ∷ later_rounds) [] flowing)) (round_gives_no_more old signal none_there)

-- ---- after a cancel

pub entry_there : (site : Site) (table : Table) → IsStation site → IsTableOf site table → (number : ℕ) (row : Row) → slice_get table.rows number ≡ Some row → row.entry < length site.signals
entry_there site table station is_table number row there =
    let of : IsRowOf site (record { 0 = number }) row = is_table.rows.their number row there
    in subst (λ (n : ℕ). n < length site.signals) (sym of.entry) (all_at (IsRouteOf site) site.routes station.routes number of.written of.is_route).entry

-- a cancel after these rounds and commands
pub cancel_happens : LawsBelow → (rounds : List (List Event)) (before : List Event) (flowing : Flowing) (route : RouteId) → IsReached flowing.state.sited.site flowing.state.sited.table flowing.state.run
    → IsAt flowing.state.sited (as_cancel_comes rounds before flowing).state
    × ((good_rounds (rounds ++ and_cancel route before ∷ []) flowing).state.run ≡ happens flowing.state.sited.site flowing.state.sited.table (Request (Cancel route)) (as_cancel_comes rounds before flowing).state.run)
cancel_happens laws rounds before flowing route reached = (at, then_is)
  where
    sited : SitedTable
    sited = flowing.state.sited

    comes : Flowing
    comes = as_cancel_comes rounds before flowing

    cancel : Event
    cancel = Request (Cancel route)

    at : IsAt sited comes.state
    at = work_reached laws sited before (round (good_rounds rounds flowing))
        (round_reached laws sited (good_rounds rounds flowing) (rounds_reached laws sited rounds flowing (record { same = refl; reached = reached })))

    never_refused : refusal comes.state.sited.site cancel comes.state.run ≡ None
    never_refused = request_happens comes.state.sited.site comes.state.run (Cancel route)

    then_is : (good_rounds (rounds ++ and_cancel route before ∷ []) flowing).state.run ≡ happens sited.site sited.table cancel comes.state.run
    then_is = ap (λ (f : Flowing). f.state.run) (last_round rounds (and_cancel route before) flowing)
        ∙ (ap (λ (w : Played). w.run) (last_tried before cancel (round (good_rounds rounds flowing)) ∙ tried_happens comes.state cancel never_refused)
        ∙ ap (λ (s : SitedTable). happens s.site s.table cancel comes.state.run) at.same)

-- it is accepted where the flow stands
pub accepted_there : (rounds : List (List Event)) (before : List Event) (flowing : Flowing) (route : RouteId) → IsAt flowing.state.sited (as_cancel_comes rounds before flowing).state → AcceptsCancel route (as_cancel_comes rounds before flowing).state
    → answered flowing.state.sited.site flowing.state.sited.table (Request (Cancel route)) (as_cancel_comes rounds before flowing).state.run ≡ Accepted
accepted_there rounds before flowing route at accepted = subst (λ (s : SitedTable). answered s.site s.table (Request (Cancel route)) (as_cancel_comes rounds before flowing).state.run ≡ Accepted) at.same accepted

-- what an accepted cancel, after these rounds and commands, leaves
pub none_behind_cancel : LawsBelow → (rounds : List (List Event)) (before : List Event) (flowing : Flowing) (route : RouteId) (row : Row) → IsReached flowing.state.sited.site flowing.state.sited.table flowing.state.run
    → slice_get flowing.state.sited.table.rows route.0 ≡ Some row → AcceptsCancel route (as_cancel_comes rounds before flowing).state
    → NoneProceeds flowing.state.sited.table (good_rounds (rounds ++ and_cancel route before ∷ []) flowing).state.run.interlocking.ixl row.entry
none_behind_cancel laws rounds before flowing route row reached there accepted =
    let happened = cancel_happens laws rounds before flowing route reached
    in subst (λ (world : WorldState). NoneProceeds flowing.state.sited.table world.interlocking.ixl row.entry) (sym happened.1)
    (cancel_leaves_none flowing.state.sited.site flowing.state.sited.table (as_cancel_comes rounds before flowing).state.run route row happened.0.reached there (accepted_there rounds before flowing route happened.0 accepted))

pub stop_behind_cancel : LawsBelow → (between : List Event) (later_rounds : List (List Event)) (before : List Event) (flowing : Flowing) (route : RouteId) (row : Row) → Once flowing.state.sited.site → IsStation flowing.state.sited.site
    → IsTableOf flowing.state.sited.site flowing.state.sited.table → IsReached flowing.state.sited.site flowing.state.sited.table flowing.state.run → Each IsWork between → Each (Each IsWork) later_rounds → Each IsWork before
    → HasTime (suc (1 + suc (length later_rounds))) flowing.state.run → slice_get flowing.state.sited.table.rows route.0 ≡ Some row → link_rounds ≤ suc (suc (length later_rounds))
    → StaysBelowLimit flowing.state.sited.site row.entry (later_rounds ++ and_cancel route before ∷ [] ∷ []) (all_tried between (round flowing))
    → AcceptsCancel route (as_cancel_comes (between ∷ later_rounds) before flowing).state
    → IsAtStop row.entry (good_rounds (between ∷ (later_rounds ++ and_cancel route before ∷ [] ∷ [])) flowing).state.run
stop_behind_cancel laws between later_rounds before flowing route row once station is_table reached work works before_works can there long below accepted =
    subst (λ (l : List (List Event)). IsAtStop row.entry (good_rounds (between ∷ l) flowing).state.run) same
    (stop_comes laws between rounds flowing row.entry once station is_table reached work (each_both (Each IsWork) later_rounds (and_cancel route before ∷ []) works (each_both IsWork before (Request (Cancel route) ∷ []) before_works (tt, tt), tt))
    (subst (λ (n : ℕ). HasTime n flowing.state.run) (let n = count_front later_rounds (and_cancel route before) in omega (arith, n)) can)
    (entry_there flowing.state.sited.site flowing.state.sited.table station is_table route.0 row there) (let n = count_front later_rounds (and_cancel route before) in omega (arith, n, long))
    (subst (λ (l : List (List Event)). StaysBelowLimit flowing.state.sited.site row.entry l (all_tried between (round flowing))) (sym same) below)
    (none_behind_cancel laws (between ∷ later_rounds) before flowing route row reached there accepted))
  where
    rounds : List (List Event)
    rounds = later_rounds ++ and_cancel route before ∷ []

    same : rounds ++ [] ∷ [] ≡ later_rounds ++ and_cancel route before ∷ [] ∷ []
    same = append_assoc later_rounds (and_cancel route before ∷ []) ([] ∷ [])
