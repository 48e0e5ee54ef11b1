-- Two good rounds after the cancel of a route that proceeds, or more, its authority has ended, whatever comes in these rounds.
use Rattle.simulator_recovery.proofs.Words.Basics.{◌≡◌, suc, ◌≤◌, List, [], ◌∷◌, ◌++◌, length, Some, slice_get, arith}
use Rattle.simulator_recovery.proofs.Words.Links.{Each}
use Rattle.simulator_recovery.proofs.Words.Interlockings.{IsTableOf, At, Row, Cancel}
use Rattle.simulator_recovery.proofs.Words.Stations.{RouteId, Once, IsStation, Event, Request, Flowing, round, IsReached}
use Rattle.simulator_recovery.proofs.Words.Recovery.{authority_rounds, AcceptsCancel, IsWithdrawnFrom, NoneProceeds, and_cancel, as_cancel_comes, StaysBelowLimit, Proceeds, ready_rounds, HasTime, IsWork, all_tried, good_rounds, IsNotSetAnew, LawsBelow}
use Rattle.simulator_recovery.proofs.Lemmas.RoutesGoing.AuthorityBehindCancel.{authority_ends_behind_cancel}
use Rattle.simulator_recovery.proofs.Lemmas.RoutesGoing.BetweenEnds.{apart_two, below_two, can_two, still_two}
use Rattle.simulator_recovery.proofs.Lemmas.Ground.EndCalls.{each_both}
use Rattle.simulator_recovery.proofs.Lemmas.Lamps.StopComes.{none_behind_cancel}

-- the rounds, with the cancel after one of them
pub cancel_works : (later_rounds : List (List Event)) (before : List Event) (route : RouteId) (more : List (List Event)) → Each (Each IsWork) later_rounds → Each IsWork before → Each (Each IsWork) more
    → Each (Each IsWork) (later_rounds ++ and_cancel route before ∷ more)
cancel_works later_rounds before route more works before_works more_works = each_both (Each IsWork) later_rounds (and_cancel route before ∷ more) works (each_both IsWork before (Request (Cancel route) ∷ []) before_works (tt, tt), more_works)

abbrev Many : LawsBelow → List (List Event) → Type 0
Many laws more = (between : List Event) (later_rounds : List (List Event)) (before : List Event) (flowing : Flowing) (route : RouteId) (row : Row) → Once flowing.state.sited.site → IsStation flowing.state.sited.site
    → IsTableOf flowing.state.sited.site flowing.state.sited.table → IsReached flowing.state.sited.site flowing.state.sited.table flowing.state.run → Each IsWork between → Each (Each IsWork) later_rounds → Each IsWork before → Each (Each IsWork) more
    → HasTime (suc (length (later_rounds ++ and_cancel route before ∷ more))) flowing.state.run → slice_get flowing.state.sited.table.rows route.0 ≡ Some row → ready_rounds ≤ suc (suc (length later_rounds)) → authority_rounds ≤ length more
    → StaysBelowLimit flowing.state.sited.site row.entry (later_rounds ++ and_cancel route before ∷ more) (all_tried between (round flowing))
    → At (as_cancel_comes (between ∷ later_rounds) before flowing).state.run.interlocking.ixl.routes route.0 Proceeds → AcceptsCancel route (as_cancel_comes (between ∷ later_rounds) before flowing).state
    → (still : IsWithdrawnFrom flowing.state.sited.table (good_rounds (between ∷ (later_rounds ++ and_cancel route before ∷ more)) flowing).state.run.interlocking.ixl row.entry) → IsNotSetAnew still.number more (good_rounds (between ∷ (later_rounds ++ and_cancel route before ∷ [])) flowing) → ⊥

pub many_cancelled : (laws : LawsBelow) (more : List (List Event)) → Many laws more
many_cancelled laws [] between later_rounds before flowing route row once station is_table reached work works before_works more_works can there long enough below proceeds accepted still apart = absurd (omega (arith, enough))
many_cancelled laws (one ∷ []) between later_rounds before flowing route row once station is_table reached work works before_works more_works can there long enough below proceeds accepted still apart = absurd (omega (arith, enough))
many_cancelled laws (one ∷ (two ∷ rest)) between later_rounds before flowing route row once station is_table reached work works before_works more_works can there long enough below proceeds accepted still apart =
    authority_ends_behind_cancel laws between later_rounds before one two flowing route row once station is_table reached work works before_works more_works.0 more_works.1.0
    (can_two laws between later_rounds last one two rest flowing row.entry reached all_works can below) there long (below_two laws between later_rounds last one two rest flowing row.entry reached all_works can below) proceeds accepted
    (still_two laws between later_rounds last one two rest flowing row.entry reached all_works can below none still apart) (apart_two laws between later_rounds last one two rest flowing row.entry reached all_works can below none still apart)
  where
    last : List Event
    last = and_cancel route before

    all_works : Each (Each IsWork) (later_rounds ++ and_cancel route before ∷ one ∷ two ∷ rest)
    all_works = cancel_works later_rounds before route (one ∷ two ∷ rest) works before_works more_works

    none : NoneProceeds flowing.state.sited.table (good_rounds (between ∷ (later_rounds ++ and_cancel route before ∷ [])) flowing).state.run.interlocking.ixl row.entry
    none = none_behind_cancel (laws) (between ∷ later_rounds) before flowing route row reached there accepted
