-- A cancel of a route that waits frees it in that step, where the link of its signal is up.
use Rattle.simulator_recovery.proofs.Words.Basics.{◌≡◌, inl, inr, ℕ, suc, ◌<◌, ◌≤◌, Bool, true, false, List, [], ◌∷◌, ◌++◌, length, Some, slice_get, refl, sym, ap, subst, ◌∙◌, arith, false≢true, same_Some}
use Rattle.simulator_recovery.proofs.Words.Links.{settled, Each, reading_of, LinkState, is_up}
use Rattle.simulator_recovery.proofs.Words.Interlockings.{IsTableOf, is_ready, At, KnownStop, is_proceeding, is_waiting, KnownSignalState, RouteState, Row, SitedTable, Table, is_set, Command, Phase}
use Rattle.simulator_recovery.proofs.Words.Stations.{Site, RouteId, Once, IsStation, Event, Answer, Flowing, round, answered, happens, WorldState, IsReached}
use Rattle.simulator_recovery.proofs.Words.Recovery.{AcceptsCancel, and_cancel, as_cancel_comes, IsUpOn, StaysBelowLimit, link_rounds, HasTime, IsWork, all_tried, good_rounds, IsSignalUp, LawsBelow, RequestLaw, FreeLaw}
use Rattle.simulator_recovery.proofs.Lemmas.Ground.ClientItem.{at_front}
use Rattle.simulator_recovery.proofs.Lemmas.Lamps.ConfirmedStops.{standing_then, still_up}
use Rattle.simulator_recovery.proofs.Lemmas.Ground.AtLink.{mapped}
use Rattle.simulator_recovery.proofs.Lemmas.RoutesGoing.AuthorityFree.{kept_behind_cancel}
use Rattle.simulator_recovery.proofs.Lemmas.Lamps.Cancelled.{RouteKeeps}
use Rattle.simulator_recovery.proofs.Lemmas.Links.ComeUp.{come_up}
use Rattle.simulator_recovery.proofs.Lemmas.RoutesComing.DueGiven.{waiting_is}
use Rattle.simulator_recovery.proofs.Lemmas.RoutesComing.DueStops.{waits_at_stop}
use Rattle.simulator_recovery.proofs.Lemmas.Ground.EndCalls.{each_both}
use Rattle.simulator_recovery.proofs.Lemmas.RoutesComing.NothingDueFrees.{nothing_waits_to_be_freed}
use Rattle.simulator_recovery.proofs.Lemmas.Links.Ready.{count_front}
use Rattle.simulator_recovery.proofs.Lemmas.Rounds.Rounds.{IsAt, rounds_reached}
use Rattle.simulator_recovery.proofs.Lemmas.Lamps.SeenSignals.{known_there, seen_then}
use Rattle.simulator_recovery.proofs.Lemmas.Ground.SignalParts.{EndsFrom, IsQuiet}
use Rattle.simulator_recovery.proofs.Lemmas.Lamps.StopComes.{accepted_there, cancel_happens, entry_there, request_happens}
use Rattle.simulator_recovery.proofs.Lemmas.Lamps.StopsGiven.{proceeding_set, waiting_set}

-- ---- a cancelled route that waits has no authority in this setting

-- While it is set it waits, and is cancelled.
abbrev WaitsCancelled : RouteState → Type 0
WaitsCancelled route = is_set route.phase ≡ true → (is_waiting route.phase ≡ true) × (route.cancelled ≡ true)

not_both : (p : Phase) → is_waiting p ≡ true → is_proceeding p ≡ true → ⊥
not_both Phase.Free e f = false≢true e
not_both Phase.Waiting e f = false≢true f
not_both Phase.Proceeding e f = false≢true e
not_both Phase.Withdrawn e f = false≢true e
not_both (Phase.Ended clock done) e f = false≢true e

not_ended : (old new : Phase) → EndsFrom old new → is_waiting old ≡ true → ⊥
not_ended Phase.Waiting new from e = from
not_ended Phase.Free new from e = false≢true e
not_ended Phase.Proceeding new from e = false≢true e
not_ended Phase.Withdrawn new from e = false≢true e
not_ended (Phase.Ended clock done) new from e = false≢true e

waits_quiet : (old new : RouteState) → IsQuiet old new → WaitsCancelled old → WaitsCancelled new
waits_quiet old new (inl (same, kept)) is set = let was = is (ap is_set (sym same) ∙ set) in (ap is_waiting same ∙ was.0, kept was.1)
waits_quiet old new (inr (over, undone, was_set, kept)) is set = absurd (not_ended old.phase new.phase (kept set).0 (is was_set).0)

waits_keeps : RouteKeeps WaitsCancelled
waits_keeps = record {
  quiet = waits_quiet;
  withdrawn = λ route is proceeds. absurd (not_both route.phase (is (proceeding_set route.phase proceeds)).0 proceeds);
  waits_not = λ route is waits not_so. false≢true (sym not_so ∙ (is (waiting_set route.phase waits)).1);
}

-- ---- the step of the cancel

pub free_at_once : LawsBelow → (site : Site) (table : Table) (world : WorldState) (route : RouteId) (row : Row) (state : RouteState) → IsReached site table world → slice_get table.rows route.0 ≡ Some row
    → At world.interlocking.ixl.routes route.0 (λ one. one.phase ≡ Phase.Waiting) → answered site table (Event.Request (Command.Cancel route)) world ≡ Answer.Accepted
    → IsSignalUp row.entry (happens site table (Event.Request (Command.Cancel route)) world)
    → slice_get (happens site table (Event.Request (Command.Cancel route)) world).interlocking.ixl.routes route.0 ≡ Some state → is_set state.phase ≡ false
free_at_once laws site table world route row state reached there waits accepted up is = by_set (is_set state.phase) refl
  where
    behind : WorldState
    behind = happens site table (Event.Request (Command.Cancel route)) world

    behind_reached : IsReached site table behind
    behind_reached = laws.reached_worlds_are_safe_on site table (Event.Request (Command.Cancel route)) world reached (request_happens site world (Command.Cancel route))

    waits_still : WaitsCancelled state
    waits_still = kept_behind_cancel WaitsCancelled waits_keeps site table world route waits.0 accepted waits.1 (λ set. (ap is_waiting waits.2, refl)) state is

    stop : state.phase ≡ Phase.Waiting → (reading : ℕ) → KnownStop reading behind.interlocking.ixl row.entry
    stop waiting reading = by_ready (is_ready up.0.client.stage) refl
      where
        by_ready : (b : Bool) → is_ready up.0.client.stage ≡ b → KnownStop reading behind.interlocking.ixl row.entry
        by_ready true e = waits_at_stop laws.request_is_accepted_where_admissible site table behind reading route.0 row state behind_reached (there, is) waiting (up.0, up.1, e)
        by_ready false e = (up.0, up.1, inl (still_up (reading_of behind.interlocking.clock) up.0.client.link up.2, inl ((standing_then site table behind behind_reached).ready row.entry up.0 up.1 e)))

    by_set : (b : Bool) → is_set state.phase ≡ b → is_set state.phase ≡ false
    by_set false e = e
    by_set true e = let waiting = waiting_is state.phase (waits_still e).0 in absurd (nothing_waits_to_be_freed laws.route_is_freed_where_cancel_lets_it_go site table behind route.0 row state behind_reached (there, is)
        (λ reading. ((waits_still e).1, inl (waiting, stop waiting reading))))

-- ---- in good rounds

-- a signal whose link is up is up at its client
pub known_up : (place : ℕ) (world : WorldState) → IsUpOn place world → (known : KnownSignalState) → slice_get world.interlocking.ixl.known_signals place ≡ Some known → is_up (settled (reading_of world.interlocking.clock) known.client.link).phase ≡ true
known_up place world up known there =
    let same = same_Some up.client known.client.link (sym up.client_there ∙ at_front _ _ place known.client.link (mapped (λ (k : KnownSignalState). k.client.link) world.interlocking.ixl.known_signals place known there))
    in ap (λ (l : LinkState). is_up (settled (reading_of world.interlocking.clock) l).phase) (sym same) ∙ up.client_up

pub free_behind_its_cancel : FreeLaw → RequestLaw → LawsBelow → (between : List Event) (later_rounds : List (List Event)) (before : List Event) (flowing : Flowing) (route : RouteId) (row : Row) → Once flowing.state.sited.site → IsStation flowing.state.sited.site
    → IsTableOf flowing.state.sited.site flowing.state.sited.table → IsReached flowing.state.sited.site flowing.state.sited.table flowing.state.run → Each IsWork between → Each (Each IsWork) later_rounds → Each IsWork before
    → HasTime (suc (suc (length later_rounds))) flowing.state.run → slice_get flowing.state.sited.table.rows route.0 ≡ Some row → link_rounds ≤ suc (suc (length later_rounds))
    → StaysBelowLimit flowing.state.sited.site row.entry (later_rounds ++ and_cancel route before ∷ []) (all_tried between (round flowing))
    → At (as_cancel_comes (between ∷ later_rounds) before flowing).state.run.interlocking.ixl.routes route.0 (λ one. one.phase ≡ Phase.Waiting) → AcceptsCancel route (as_cancel_comes (between ∷ later_rounds) before flowing).state
    → (state : RouteState) → slice_get (good_rounds (between ∷ (later_rounds ++ and_cancel route before ∷ [])) flowing).state.run.interlocking.ixl.routes route.0 ≡ Some state → is_set state.phase ≡ false
free_behind_its_cancel free request laws between later_rounds before flowing route row once station is_table reached work works before_works can there long below waits accepted state is =
    free_at_once (laws) sited.site sited.table comes route row state happened.0.reached there waits
    (accepted_there (between ∷ later_rounds) before flowing route happened.0 accepted) (subst (IsSignalUp row.entry) happened.1 up) (ap (λ (w : WorldState). slice_get w.interlocking.ixl.routes route.0) (sym happened.1) ∙ is)
  where
    sited : SitedTable
    sited = flowing.state.sited

    comes : WorldState
    comes = (as_cancel_comes (between ∷ later_rounds) before flowing).state.run

    rounds : List (List Event)
    rounds = later_rounds ++ and_cancel route before ∷ []

    behind : WorldState
    behind = (good_rounds (between ∷ rounds) flowing).state.run

    happened : IsAt sited (as_cancel_comes (between ∷ later_rounds) before flowing).state × (behind ≡ happens sited.site sited.table (Event.Request (Command.Cancel route)) comes)
    happened = cancel_happens laws (between ∷ later_rounds) before flowing route reached

    behind_reached : IsReached sited.site sited.table behind
    behind_reached = (rounds_reached laws sited (between ∷ rounds) flowing (record { same = refl; reached = reached })).reached

    few : row.entry < length sited.site.signals
    few = entry_there sited.site sited.table station is_table route.0 row there

    up_there : IsUpOn row.entry behind
    up_there =
        let many = count_front later_rounds (and_cancel route before)
        in come_up laws between rounds flowing row.entry once station is_table reached work
        (each_both (Each IsWork) later_rounds (and_cancel route before ∷ []) works (each_both IsWork before (Event.Request (Command.Cancel route) ∷ []) before_works (tt, tt), tt))
        (subst (λ (n : ℕ). HasTime n flowing.state.run) (omega (arith, many)) can) (omega (arith, few)) (omega (arith, many, long)) below

    up : IsSignalUp row.entry behind
    up =
        let seen = seen_then laws sited.site sited.table once station is_table behind behind_reached
        in let known = known_there sited.site sited.table behind seen.0 seen.1 row.entry few
        in (known.0, known.1, known_up row.entry behind up_there known.0 known.1)
