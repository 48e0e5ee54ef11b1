-- Two good rounds after the one in which a route is withdrawn, or more, its authority has ended, whatever comes in these rounds.
use Rattle.simulator_recovery.proofs.Words.Basics.{◌≡◌, ℕ, suc, ◌<◌, ◌≤◌, List, [], ◌∷◌, ◌++◌, length, Some, slice_get, refl, arith}
use Rattle.simulator_recovery.proofs.Words.Links.{Each}
use Rattle.simulator_recovery.proofs.Words.Interlockings.{IsTableOf, RouteState, Phase}
use Rattle.simulator_recovery.proofs.Words.Stations.{Once, IsStation, Event, Flowing, round, IsReached}
use Rattle.simulator_recovery.proofs.Words.Recovery.{authority_rounds, IsWithdrawnFrom, NoneProceeds, StaysBelowLimit, ready_rounds, HasTime, IsWork, all_tried, good_rounds, IsNotSetAnew, LawsBelow}
use Rattle.simulator_recovery.proofs.Lemmas.Lamps.ConfirmedStops.{none_proceeds}
use Rattle.simulator_recovery.proofs.Lemmas.RoutesGoing.BetweenEnds.{apart_two, below_two, can_two, parts, still_two, works_first}
use Rattle.simulator_recovery.proofs.Lemmas.Rounds.Rounds.{rounds_reached}
use Rattle.simulator_recovery.proofs.Lemmas.RoutesGoing.WithdrawnRounds.{ends_behind_withdrawal}

abbrev ManyWithdrawn : LawsBelow → List (List Event) → Type 0
ManyWithdrawn laws more = (between : List Event) (later_rounds : List (List Event)) (last : List Event) (flowing : Flowing) (signal : ℕ) → Once flowing.state.sited.site → IsStation flowing.state.sited.site
    → IsTableOf flowing.state.sited.site flowing.state.sited.table → IsReached flowing.state.sited.site flowing.state.sited.table flowing.state.run → Each IsWork between → Each (Each IsWork) (later_rounds ++ last ∷ more)
    → HasTime (suc (length (later_rounds ++ last ∷ more))) flowing.state.run → signal < length flowing.state.sited.site.signals → ready_rounds ≤ suc (length later_rounds) → authority_rounds ≤ length more
    → StaysBelowLimit flowing.state.sited.site signal (later_rounds ++ last ∷ more) (all_tried between (round flowing))
    → (withdrawn : IsWithdrawnFrom flowing.state.sited.table (good_rounds (between ∷ (later_rounds ++ last ∷ [])) flowing).state.run.interlocking.ixl signal)
    → ((route : RouteState) → slice_get (good_rounds (between ∷ later_rounds) flowing).state.run.interlocking.ixl.routes withdrawn.number ≡ Some route → route.phase ≡ Phase.Withdrawn → ⊥)
    → (still : IsWithdrawnFrom flowing.state.sited.table (good_rounds (between ∷ (later_rounds ++ last ∷ more)) flowing).state.run.interlocking.ixl signal) → IsNotSetAnew still.number more (good_rounds (between ∷ (later_rounds ++ last ∷ [])) flowing) → ⊥

pub many_withdrawn : (laws : LawsBelow) (more : List (List Event)) → ManyWithdrawn laws more
many_withdrawn laws [] between later_rounds last flowing signal once station is_table reached work works can few long enough below withdrawn not_yet still apart = absurd (omega (arith, enough))
many_withdrawn laws (one ∷ []) between later_rounds last flowing signal once station is_table reached work works can few long enough below withdrawn not_yet still apart = absurd (omega (arith, enough))
many_withdrawn laws (one ∷ (two ∷ rest)) between later_rounds last flowing signal once station is_table reached work works can few long enough below withdrawn not_yet still apart =
    let p = parts laws between later_rounds last one two rest flowing signal reached works can below
    in ends_behind_withdrawal laws between later_rounds last one two flowing signal once station is_table reached work (works_first laws between later_rounds last one two rest flowing signal reached works can below) p.1.1.0 p.1.1.1.0
    (can_two laws between later_rounds last one two rest flowing signal reached works can below) few long (below_two laws between later_rounds last one two rest flowing signal reached works can below) withdrawn not_yet
    (still_two laws between later_rounds last one two rest flowing signal reached works can below none still apart) (apart_two laws between later_rounds last one two rest flowing signal reached works can below none still apart)
  where
    none : NoneProceeds flowing.state.sited.table (good_rounds (between ∷ (later_rounds ++ last ∷ [])) flowing).state.run.interlocking.ixl signal
    none = none_proceeds flowing.state.sited.site flowing.state.sited.table (good_rounds (between ∷ (later_rounds ++ last ∷ [])) flowing).state.run signal
        (rounds_reached laws flowing.state.sited (between ∷ (later_rounds ++ last ∷ [])) flowing (record { same = refl; reached = reached })).reached withdrawn
